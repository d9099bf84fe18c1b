-- The export form of statements reads as these statements: it is their tokens, each followed by one
-- white byte, and no token of a statement begins or ends a comment.
use Rattle.mm_read.proofs.Words.{◌≡◌, ℕ, ◌+◌, ◌-◌, Bool, true, false, not, ◌&&◌, ◌||◌, cond, List, [], ◌∷◌, ◌++◌, length, take, map, codes, list_all, sym, ◌∙◌, ap, arith, refl, true≢false, append_assoc, length-append, append-nil, take-append_seam, drop-append_seam, and_parts, and_from, nat_tests, list_all-map, list_all-append, word-visible, Span, Name, is_empty, is_white, is_visible, is_allowed, is_symbol, is_label, is_label_byte, has_byte, runs, runs_from, is_empty_or_starts_white, with_byte, word, spaced, is_word, is_plain, words, Stmt, Open, Close, Const, Var, Disj, Float, Ess, Axiom, Prove, Database, is_shaped, are_symbols, has_two, stmt_tokens, tokens_of, export_of, white_run}
use Rattle.mm_read.specs.Laws as laws
use Rattle.mm_read.proofs.StatementsLemmas.{symbol_plain, label_plain, symbols_of, plain_is_no_key}

-- ---- the runs of words with a white byte after each

-- no visible byte is white
visible_not_white : (b : ℕ) → is_visible b ≡ true → is_white b ≡ false
visible_not_white b h = grind (arith, nat_tests, h)

-- a byte of a label is visible
label_byte_visible : (b : ℕ) → is_label_byte b ≡ true → is_visible b ≡ true
label_byte_visible b h = grind (arith, nat_tests, h)

abbrev span_of : ℕ → ℕ → Span
span_of start end = record { start = start; end = end }

runs-visible : (at c : ℕ) (text : List ℕ) → is_visible c ≡ true → runs_from at (c ∷ text) ≡ with_byte at (is_empty_or_starts_white text) (runs_from (at + 1) text)
runs-visible at c text h = ap (λ t. cond t (runs_from (at + 1) text) (with_byte at (is_empty_or_starts_white text) (runs_from (at + 1) text))) (visible_not_white c h)

runs-word : (at : ℕ) (w : Name) (b : ℕ) (text : List ℕ) → is_word w ≡ true → is_white b ≡ true
    → runs_from at (w ++ b ∷ text) ≡ span_of at (at + length w) ∷ runs_from (at + length w + 1) text
runs-word at [] b text h k = absurd (true≢false (sym h))
runs-word at (c ∷ []) b text h k =
    runs-visible at c (b ∷ text) (and_parts (is_visible c) true h).0
    ∙ (ap (λ t. with_byte at t (runs_from (at + 1) (b ∷ text))) k ∙ ap (λ r. span_of at (at + 1) ∷ r) (white_run (at + 1) b text k))
runs-word at (c ∷ d ∷ w) b text h k =
    let parts : (is_visible c ≡ true) × (list_all is_visible (d ∷ w) ≡ true) = and_parts (is_visible c) (list_all is_visible (d ∷ w)) h in
    let next : (is_visible d ≡ true) × (list_all is_visible w ≡ true) = and_parts (is_visible d) (list_all is_visible w) parts.1 in
    runs-visible at c (d ∷ w ++ b ∷ text) parts.0
    ∙ (ap (λ t. with_byte at t (runs_from (at + 1) (d ∷ w ++ b ∷ text))) (visible_not_white d next.0)
    ∙ (ap (with_byte at false) (runs-word (at + 1) (d ∷ w) b text parts.1 k) ∙ along (at + 1 + length (d ∷ w)) (at + length (c ∷ d ∷ w)) (longer w)))
  where
    longer : (w : Name) → at + 1 + length (d ∷ w) ≡ at + length (c ∷ d ∷ w)
    longer w = omega arith

    along : (m n : ℕ) → m ≡ n → span_of at m ∷ runs_from (m + 1) text ≡ span_of at n ∷ runs_from (n + 1) text
    along m n e = ap (λ x. span_of at x ∷ runs_from (x + 1) text) e

-- words, each with the white byte that follows it
abbrev Laid : Type 0
Laid = List (Name × ℕ)

abbrev laid_text : Laid → List ℕ
laid_text [] = []
laid_text (p ∷ laid) = p.0 ++ p.1 ∷ laid_text laid

abbrev laid_words : Laid → List Name
laid_words laid = map (λ p. p.0) laid

abbrev is_laid : Laid → Bool
is_laid laid = list_all (λ p. is_word p.0 && is_white p.1) laid

words-laid : (laid : Laid) (before : List ℕ) → is_laid laid ≡ true → map (word (before ++ laid_text laid)) (runs_from (length before) (laid_text laid)) ≡ laid_words laid
words-laid [] before h = refl
words-laid (p ∷ laid) before h =
    ap (map (word (before ++ laid_text (p ∷ laid)))) (runs-word (length before) p.0 p.1 (laid_text laid) own.0 own.1)
    ∙ (ap (λ w. w ∷ map (word (before ++ laid_text (p ∷ laid))) (runs_from (length before + length p.0 + 1) (laid_text laid))) head
    ∙ ap (λ r. p.0 ∷ r) (tail (words-laid laid (before ++ (p.0 ++ p.1 ∷ [])) parts.1)))
  where
    parts : ((is_word p.0 && is_white p.1) ≡ true) × (is_laid laid ≡ true)
    parts = and_parts (is_word p.0 && is_white p.1) (is_laid laid) h

    own : (is_word p.0 ≡ true) × (is_white p.1 ≡ true)
    own = and_parts (is_word p.0) (is_white p.1) parts.0

    head : word (before ++ laid_text (p ∷ laid)) (span_of (length before) (length before + length p.0)) ≡ p.0
    head =
        ap (λ r. take (length before + length p.0 - length before) r) (drop-append_seam before (laid_text (p ∷ laid)))
        ∙ (ap (λ n. take n (laid_text (p ∷ laid))) (omega arith) ∙ take-append_seam p.0 (p.1 ∷ laid_text laid))

    whole : (before ++ (p.0 ++ p.1 ∷ [])) ++ laid_text laid ≡ before ++ laid_text (p ∷ laid)
    whole = append_assoc before (p.0 ++ p.1 ∷ []) (laid_text laid) ∙ ap (λ r. before ++ r) (append_assoc p.0 (p.1 ∷ []) (laid_text laid))

    long : length (before ++ (p.0 ++ p.1 ∷ [])) ≡ length before + length p.0 + 1
    long = omega (arith, length-append before (p.0 ++ p.1 ∷ []), length-append p.0 (p.1 ∷ []))

    tail : map (word ((before ++ (p.0 ++ p.1 ∷ [])) ++ laid_text laid)) (runs_from (length (before ++ (p.0 ++ p.1 ∷ []))) (laid_text laid)) ≡ laid_words laid
        → map (word (before ++ laid_text (p ∷ laid))) (runs_from (length before + length p.0 + 1) (laid_text laid)) ≡ laid_words laid
    tail e =
        sym (ap (λ t. map (word t) (runs_from (length (before ++ (p.0 ++ p.1 ∷ []))) (laid_text laid))) whole ∙ ap (λ n. map (word (before ++ laid_text (p ∷ laid))) (runs_from n (laid_text laid))) long) ∙ e

-- each byte is allowed
visible_allowed : (w : Name) → list_all is_visible w ≡ true → list_all is_allowed w ≡ true
visible_allowed [] h = refl
visible_allowed (b ∷ w) h =
    let parts : (is_visible b ≡ true) × (list_all is_visible w ≡ true) = and_parts (is_visible b) (list_all is_visible w) h in
    and_from (is_allowed b) (list_all is_allowed w) (ap (λ t. t || is_white b) parts.0) (visible_allowed w parts.1)

-- a white byte is allowed
white_allowed : (b : ℕ) → is_white b ≡ true → is_allowed b ≡ true
white_allowed b h = grind (arith, nat_tests, h)

allowed-laid : (laid : Laid) → is_laid laid ≡ true → list_all is_allowed (laid_text laid) ≡ true
allowed-laid [] h = refl
allowed-laid (p ∷ laid) h =
    let parts : ((is_word p.0 && is_white p.1) ≡ true) × (is_laid laid ≡ true) = and_parts (is_word p.0 && is_white p.1) (is_laid laid) h in
    let own : (is_word p.0 ≡ true) × (is_white p.1 ≡ true) = and_parts (is_word p.0) (is_white p.1) parts.0 in
    list_all-append is_allowed p.0 (p.1 ∷ laid_text laid)
    ∙ and_from (list_all is_allowed p.0) (is_allowed p.1 && list_all is_allowed (laid_text laid)) (visible_allowed p.0 (word-visible p.0 own.0))
    (and_from (is_allowed p.1) (list_all is_allowed (laid_text laid)) (white_allowed p.1 own.1) (allowed-laid laid parts.1))

-- ---- the export form is of this kind

-- words with a space after each, and a line feed after the last
laid_line : List Name → Laid
laid_line [] = []
laid_line (w ∷ []) = (w, 10) ∷ []
laid_line (w ∷ v ∷ ws) = (w, 32) ∷ laid_line (v ∷ ws)

-- a line for each statement
laid_of : Database → Laid
laid_of [] = []
laid_of (s ∷ S) = laid_line (stmt_tokens s) ++ laid_of S

line-laid : (w : Name) (ws : List Name) (more : Laid) → laid_text (laid_line (w ∷ ws) ++ more) ≡ spaced (w ∷ ws) ++ 10 ∷ laid_text more
unfolding laid_line
line-laid w [] more = refl
line-laid w (v ∷ ws) more = ap (λ r. w ++ 32 ∷ r) (line-laid v ws more) ∙ sym (append_assoc w (32 ∷ spaced (v ∷ ws)) (10 ∷ laid_text more))

line-words : (ws : List Name) (more : Laid) → laid_words (laid_line ws ++ more) ≡ ws ++ laid_words more
unfolding laid_line
line-words [] more = refl
line-words (w ∷ []) more = refl
line-words (w ∷ v ∷ ws) more = ap (λ r. w ∷ r) (line-words (v ∷ ws) more)

line-is_laid : (ws : List Name) (more : Laid) → list_all is_word ws ≡ true → is_laid more ≡ true → is_laid (laid_line ws ++ more) ≡ true
unfolding laid_line
line-is_laid [] more h k = k
line-is_laid (w ∷ []) more h k = and_from (is_word w && true) (is_laid more) h k
line-is_laid (w ∷ v ∷ ws) more h k =
    let parts : (is_word w ≡ true) × (list_all is_word (v ∷ ws) ≡ true) = and_parts (is_word w) (list_all is_word (v ∷ ws)) h in
    and_from (is_word w && true) (is_laid (laid_line (v ∷ ws) ++ more)) (and_from (is_word w) true parts.0 refl) (line-is_laid (v ∷ ws) more parts.1 k)

-- ---- the tokens of statements are words, and begin and end no comment

abbrev is_token : Name → Bool
is_token w = is_word w && is_plain w

-- a word without `$` begins and ends no comment
plain_plain : (w : Name) → has_byte 36 w ≡ false → is_plain w ≡ true
plain_plain w h = rw (plain_is_no_key w (codes "$(") h refl, plain_is_no_key w (codes "$)") h refl) refl

-- visible bytes are a word, if there is at least one
visible_word : (w : Name) → not (is_empty w) ≡ true → list_all is_visible w ≡ true → is_word w ≡ true
visible_word [] some h = some
visible_word (b ∷ w) some h = h

-- a symbol is such a token
symbol_token : (w : Name) → is_symbol w ≡ true → is_token w ≡ true
symbol_token w h =
    let parts : ((not (is_empty w) && list_all is_visible w) ≡ true) × (not (has_byte 36 w) ≡ true) = and_parts (not (is_empty w) && list_all is_visible w) (not (has_byte 36 w)) h in
    let own : (not (is_empty w) ≡ true) × (list_all is_visible w ≡ true) = and_parts (not (is_empty w)) (list_all is_visible w) parts.0 in
    and_from (is_word w) (is_plain w) (visible_word w own.0 own.1) (plain_plain w (symbol_plain w h))

-- bytes of a label are visible
label_visible : (w : Name) → list_all is_label_byte w ≡ true → list_all is_visible w ≡ true
label_visible [] h = refl
label_visible (b ∷ w) h =
    let parts : (is_label_byte b ≡ true) × (list_all is_label_byte w ≡ true) = and_parts (is_label_byte b) (list_all is_label_byte w) h in
    and_from (is_visible b) (list_all is_visible w) (label_byte_visible b parts.0) (label_visible w parts.1)

-- a label is such a token
label_token : (w : Name) → is_label w ≡ true → is_token w ≡ true
label_token w h =
    let parts : (not (is_empty w) ≡ true) × (list_all is_label_byte w ≡ true) = and_parts (not (is_empty w)) (list_all is_label_byte w) h in
    and_from (is_word w) (is_plain w) (visible_word w parts.0 (label_visible w parts.1)) (plain_plain w (label_plain w h))

-- symbols are such tokens
symbol_tokens : (ws : List Name) → list_all is_symbol ws ≡ true → list_all is_token ws ≡ true
symbol_tokens [] h = refl
symbol_tokens (w ∷ ws) h =
    let parts : (is_symbol w ≡ true) × (list_all is_symbol ws ≡ true) = and_parts (is_symbol w) (list_all is_symbol ws) h in
    and_from (is_token w) (list_all is_token ws) (symbol_token w parts.0) (symbol_tokens ws parts.1)

-- symbols before such tokens are such tokens
then_tokens : (ws rest : List Name) → list_all is_symbol ws ≡ true → list_all is_token rest ≡ true → list_all is_token (ws ++ rest) ≡ true
then_tokens ws rest h k = list_all-append is_token ws rest ∙ and_from (list_all is_token ws) (list_all is_token rest) (symbol_tokens ws h) k

stmt-tokens : (s : Stmt) → is_shaped s ≡ true → list_all is_token (stmt_tokens s) ≡ true
stmt-tokens Open h = refl
stmt-tokens Close h = refl
stmt-tokens (Const ws) h = then_tokens ws (codes "$." ∷ []) (symbols_of ws h) refl
stmt-tokens (Var ws) h = then_tokens ws (codes "$." ∷ []) (symbols_of ws h) refl
stmt-tokens (Disj ws) h = then_tokens ws (codes "$." ∷ []) (symbols_of ws (and_parts (are_symbols ws) (has_two ws) h).0) refl
stmt-tokens (Float label c v) h =
    let outer : ((is_label label && is_symbol c) ≡ true) × (is_symbol v ≡ true) = and_parts (is_label label && is_symbol c) (is_symbol v) h in
    let inner : (is_label label ≡ true) × (is_symbol c ≡ true) = and_parts (is_label label) (is_symbol c) outer.0 in
    rw (label_token label inner.0, symbol_token c inner.1, symbol_token v outer.1) refl
stmt-tokens (Ess label ws) h =
    let parts : (is_label label ≡ true) × (are_symbols ws ≡ true) = and_parts (is_label label) (are_symbols ws) h in
    rw (label_token label parts.0) (then_tokens ws (codes "$." ∷ []) (symbols_of ws parts.1) refl)
stmt-tokens (Axiom label ws) h =
    let parts : (is_label label ≡ true) × (are_symbols ws ≡ true) = and_parts (is_label label) (are_symbols ws) h in
    rw (label_token label parts.0) (then_tokens ws (codes "$." ∷ []) (symbols_of ws parts.1) refl)
stmt-tokens (Prove label ws proof) h =
    let both : ((is_label label && are_symbols ws) ≡ true) × (list_all is_symbol proof ≡ true) = and_parts (is_label label && are_symbols ws) (list_all is_symbol proof) h in
    let parts : (is_label label ≡ true) × (are_symbols ws ≡ true) = and_parts (is_label label) (are_symbols ws) both.0 in
    rw (label_token label parts.0) (then_tokens ws (codes "$=" ∷ (proof ++ codes "$." ∷ [])) (symbols_of ws parts.1) (then_tokens proof (codes "$." ∷ []) both.1 refl))

tokens_of-are_tokens : (S : Database) → list_all is_shaped S ≡ true → list_all is_token (tokens_of S) ≡ true
tokens_of-are_tokens [] h = refl
tokens_of-are_tokens (s ∷ S) h =
    let parts : (is_shaped s ≡ true) × (list_all is_shaped S ≡ true) = and_parts (is_shaped s) (list_all is_shaped S) h in
    list_all-append is_token (stmt_tokens s) (tokens_of S) ∙ and_from (list_all is_token (stmt_tokens s)) (list_all is_token (tokens_of S)) (stmt-tokens s parts.0) (tokens_of-are_tokens S parts.1)

-- if each is such a token, each is a word and each is plain
all_words : (ws : List Name) → list_all is_token ws ≡ true → (list_all is_word ws ≡ true) × (list_all is_plain ws ≡ true)
all_words [] h = (refl, refl)
all_words (w ∷ ws) h =
    let parts : (is_token w ≡ true) × (list_all is_token ws ≡ true) = and_parts (is_token w) (list_all is_token ws) h in
    let own : (is_word w ≡ true) × (is_plain w ≡ true) = and_parts (is_word w) (is_plain w) parts.0 in
    let rest : (list_all is_word ws ≡ true) × (list_all is_plain ws ≡ true) = all_words ws parts.1 in
    (and_from (is_word w) (list_all is_word ws) own.0 rest.0, and_from (is_plain w) (list_all is_plain ws) own.1 rest.1)

-- ---- the whole export form

-- a statement has a first token
first_token : (s : Stmt) → (w : Name) × (ws : List Name) × (stmt_tokens s ≡ w ∷ ws)
first_token Open = (codes "${", [], refl)
first_token Close = (codes "$}", [], refl)
first_token (Const ws) = (codes "$c", ws ++ codes "$." ∷ [], refl)
first_token (Var ws) = (codes "$v", ws ++ codes "$." ∷ [], refl)
first_token (Disj ws) = (codes "$d", ws ++ codes "$." ∷ [], refl)
first_token (Float label c v) = (label, codes "$f" ∷ c ∷ v ∷ codes "$." ∷ [], refl)
first_token (Ess label ws) = (label, codes "$e" ∷ (ws ++ codes "$." ∷ []), refl)
first_token (Axiom label ws) = (label, codes "$a" ∷ (ws ++ codes "$." ∷ []), refl)
first_token (Prove label ws proof) = (label, codes "$p" ∷ (ws ++ codes "$=" ∷ (proof ++ codes "$." ∷ [])), refl)

export-laid : (S : Database) → laid_text (laid_of S) ≡ export_of S
unfolding laid_of
export-laid [] = refl
export-laid (s ∷ S) =
    let t : (w : Name) × (ws : List Name) × (stmt_tokens s ≡ w ∷ ws) = first_token s in
    ap (λ ts. laid_text (laid_line ts ++ laid_of S)) t.2
    ∙ (line-laid t.0 t.1 (laid_of S)
    ∙ (ap (λ r. spaced (t.0 ∷ t.1) ++ 10 ∷ r) (export-laid S)
    ∙ (sym (append_assoc (spaced (t.0 ∷ t.1)) (10 ∷ []) (export_of S)) ∙ ap (λ ts. (spaced ts ++ 10 ∷ []) ++ export_of S) (sym t.2))))

words-export : (S : Database) → laid_words (laid_of S) ≡ tokens_of S
unfolding laid_of
words-export [] = refl
words-export (s ∷ S) = line-words (stmt_tokens s) (laid_of S) ∙ ap (λ r. stmt_tokens s ++ r) (words-export S)

export-is_laid : (S : Database) → list_all is_shaped S ≡ true → is_laid (laid_of S) ≡ true
unfolding laid_of
export-is_laid [] h = refl
export-is_laid (s ∷ S) h =
    let parts : (is_shaped s ≡ true) × (list_all is_shaped S ≡ true) = and_parts (is_shaped s) (list_all is_shaped S) h in
    line-is_laid (stmt_tokens s) (laid_of S) (all_words (stmt_tokens s) (stmt-tokens s parts.0)).0 (export-is_laid S parts.1)

-- the words of the runs of the export form are the tokens of the statements
export_words : (S : Database) → list_all is_shaped S ≡ true → words (export_of S) (runs (export_of S)) ≡ tokens_of S
export_words S h = ap (λ text. words text (runs text)) (sym (export-laid S)) ∙ (words-laid (laid_of S) [] (export-is_laid S h) ∙ words-export S)

-- the law: the export form of statements reads as these statements
pub export_reads : laws.ExportReads
export_reads S h = record {
  shaped = h;
  tokens = (
    runs (export_of S),
    (
      allowed,
      record {
        first = runs (export_of S);
        parts = [];
        whole = sym (append-nil (runs (export_of S)));
        plain = sym (list_all-map is_plain (word (export_of S)) (runs (export_of S))) ∙ (ap (list_all is_plain) (export_words S h) ∙ (all_words (tokens_of S) (tokens_of-are_tokens S h)).1);
        comments = tt;
        outside = sym (append-nil (runs (export_of S)));
      },
    ),
    export_words S h,
  );
}
  where
    allowed : list_all is_allowed (export_of S) ≡ true
    allowed = ap (list_all is_allowed) (sym (export-laid S)) ∙ allowed-laid (laid_of S) (export-is_laid S h)
