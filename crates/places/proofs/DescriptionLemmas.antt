-- The walk over the runs of a text finds the description of each statement.
use Rattle.places.proofs.Words.{◌≡◌, ℕ, suc, ◌<◌, ◌≤◌, Bool, true, false, not, ◌&&◌, ◌||◌, cond, List, [], ◌∷◌, ◌++◌, length, drop, flat_map, Option, Some, None, codes, refl, sym, ◌∙◌, ap, arith, append_assoc, length-append, list_all, and_parts, and_from, both_ways, append-nil, map-append, length-map, length-drop, list_all-append, Span, Name, name_eq, runs, word, is_symbol, is_label, opener, closer, is_plain, AllPlain, CommentAndTokens, all_spans, IsCommentAndTokens, AreCommentsAndTokens, SplitsInto, words, runs_after, name_same, Stmt, Open, Close, Const, Var, Disj, Float, Ess, Axiom, Prove, Database, is_shaped, AreShaped, are_symbols, has_two, stmt_tokens, tokens_of, Reads, symbols_of, WalkState, Inside, Outside, ends_statement, contents, comments_before, comments_in, comments_of, first_of, statement_comments, AreDescriptions, at_start, state_after_run, description_of_begun_statement, walk_over}
use Rattle.places.proofs.TokenSpanLemmas.{symbol_goes_on, label_goes_on}

-- ---- the loop

-- the list, with what the walk over the rest adds, is the whole list
abbrev pub IsListed : List ℕ → ℕ → WalkState → List (Option Span) → Type 0
IsListed text at walk list = list ++ walk_over text walk (runs_after text at) ≡ walk_over text at_start (runs text)

pub listed_none : (text : List ℕ) (list : List (Option Span)) → list ≡ [] → IsListed text 0 at_start list
listed_none text list none = ap (λ l. l ++ walk_over text at_start (runs_after text 0)) none

pub listed_on : (text : List ℕ) (at : ℕ) (walk next : WalkState) (run : Span) (w : Name) (old new : List (Option Span))
    → IsListed text at walk old → runs_after text at ≡ run ∷ runs_after text run.end → w ≡ word text run
    → new ≡ old ++ description_of_begun_statement walk w → next ≡ state_after_run walk w run → IsListed text run.end next new
listed_on text at walk next run w old new is runs_are same added step =
    let rest = runs_after text run.end in
    let here : walk_over text walk (run ∷ rest) ≡ description_of_begun_statement walk w ++ walk_over text next rest
    = ap (λ v. description_of_begun_statement walk v ++ walk_over text (state_after_run walk v run) rest) (sym same) ∙ ap (λ k. description_of_begun_statement walk w ++ walk_over text k rest) (sym step) in
    ap (λ l. l ++ walk_over text next rest) added
    ∙ (append_assoc old (description_of_begun_statement walk w) (walk_over text next rest)
    ∙ (ap (λ v. old ++ v) (sym here) ∙ (ap (λ r. old ++ walk_over text walk r) (sym runs_are) ∙ is)))

pub listed_all : (text : List ℕ) (at : ℕ) (walk : WalkState) (list : List (Option Span)) → IsListed text at walk list → runs_after text at ≡ [] → list ≡ walk_over text at_start (runs text)
listed_all text at walk list is none = sym (append-nil list) ∙ (ap (λ r. list ++ walk_over text walk r) (sym none) ∙ is)

-- the walk continues from a later offset
pub listed_later : (text : List ℕ) (at later : ℕ) (walk : WalkState) (list : List (Option Span)) → IsListed text at walk list
    → walk_over text walk (runs_after text at) ≡ walk_over text walk (runs_after text later) → IsListed text later walk list
listed_later text at later walk list is same = ap (λ r. list ++ r) (sym same) ∙ is

-- ---- the comments of the tokens that begin statements

abbrev kept : Bool → Option Span → List (Option Span)
kept begins comment = cond begins (comment ∷ []) []

abbrev picked : Bool → List Name → List (Option Span) → List (Option Span)
picked begins [] comments = []
picked begins (w ∷ ws) [] = []
picked begins (w ∷ ws) (comment ∷ comments) = kept begins comment ++ picked (ends_statement w) ws comments

-- a plain word neither begins nor ends a comment
plain_parts : (a b : Bool) → not (a || b) ≡ true → (a ≡ false) × (b ≡ false)
plain_parts true b h = absurd (both_ways false refl h)
plain_parts false true h = absurd (both_ways false refl h)
plain_parts false false h = (refl, refl)

not_true : (b : Bool) → not b ≡ true → b ≡ false
not_true true h = absurd (both_ways false refl h)
not_true false h = refl

module _ (text : List ℕ) where
  -- plain runs outside comments, in front of other runs
  plain_walk : (ps rest : List Span) (ws : List Name) (comments : List (Option Span)) → AllPlain text ps
      → ((last : Option Span) (begins : Bool) → walk_over text (Outside last begins) rest ≡ picked begins ws comments)
      → (last : Option Span) (begins : Bool) → walk_over text (Outside last begins) (ps ++ rest) ≡ picked begins (words text ps ++ ws) (comments_before last ps ++ comments)
  plain_walk [] rest ws comments plain on last begins = on last begins
  plain_walk (p ∷ ps) rest ws comments plain on last begins =
      let w : Name = word text p in
      let both : (is_plain w ≡ true) × AllPlain text ps = and_parts (is_plain w) (list_all (λ s. is_plain (word text s)) ps) plain in
      let opens : name_eq w opener ≡ false = (plain_parts (name_eq w opener) (name_eq w closer) both.0).0 in
      let more : walk_over text (Outside None (ends_statement w)) (ps ++ rest) ≡ picked (ends_statement w) (words text ps ++ ws) (comments_before None ps ++ comments)
      = plain_walk ps rest ws comments both.1 on None (ends_statement w) in
      ap (λ b. cond b [] (kept begins last) ++ walk_over text (cond b (Inside p.end begins) (Outside None (ends_statement w))) (ps ++ rest)) opens
      ∙ ap (λ l. kept begins last ++ l) more

  -- the inside of a comment, up to its end
  inside_walk : (inside rest : List Span) (end : Span) (start : ℕ) (begins : Bool) → AllPlain text inside → word text end ≡ closer
      → walk_over text (Inside start begins) (inside ++ (end ∷ rest)) ≡ walk_over text (Outside (Some (record { start = start; end = end.start })) begins) rest
  inside_walk [] rest end start begins plain closes =
      let same : name_eq (word text end) closer ≡ true = ap (λ w. name_eq w closer) closes ∙ name_same closer in
      ap (λ b. walk_over text (cond b (Outside (Some (record { start = start; end = end.start })) begins) (Inside start begins)) rest) same
  inside_walk (p ∷ inside) rest end start begins plain closes =
      let w : Name = word text p in
      let both : (is_plain w ≡ true) × AllPlain text inside = and_parts (is_plain w) (list_all (λ s. is_plain (word text s)) inside) plain in
      let other : name_eq w closer ≡ false = (plain_parts (name_eq w opener) (name_eq w closer) both.0).1 in
      ap (λ b. walk_over text (cond b (Outside (Some (record { start = start; end = p.start })) begins) (Inside start begins)) (inside ++ (end ∷ rest))) other
      ∙ inside_walk inside rest end start begins both.1 closes

  abbrev outer : List CommentAndTokens → List Span
  outer ps = flat_map (λ (p : CommentAndTokens). p.after) ps

  -- comments, with the tokens after each
  parts_walk : (ps : List CommentAndTokens) → AreCommentsAndTokens text ps → (last : Option Span) (begins : Bool)
      → walk_over text (Outside last begins) (flat_map all_spans ps) ≡ picked begins (words text (outer ps)) (flat_map comments_in ps)
  parts_walk [] are last begins = refl
  parts_walk (p ∷ ps) are last begins =
      let part : IsCommentAndTokens text p = are.0 in
      let rest : List Span = flat_map all_spans ps in
      let w : Name = word text p.begin in
      let opens : name_eq w opener ≡ true = ap (λ v. name_eq v opener) part.begins ∙ name_same opener in
      let whole : (p.inside ++ p.end ∷ p.after) ++ rest ≡ p.inside ++ (p.end ∷ (p.after ++ rest)) = append_assoc p.inside (p.end ∷ p.after) rest in
      let enter : walk_over text (Outside last begins) (p.begin ∷ ((p.inside ++ p.end ∷ p.after) ++ rest)) ≡ walk_over text (Inside p.begin.end begins) ((p.inside ++ p.end ∷ p.after) ++ rest)
      = ap (λ b. cond b [] (kept begins last) ++ walk_over text (cond b (Inside p.begin.end begins) (Outside None (ends_statement w))) ((p.inside ++ p.end ∷ p.after) ++ rest)) opens in
      let pass = inside_walk p.inside (p.after ++ rest) p.end p.begin.end begins part.inside part.ends in
      let walk_after = plain_walk p.after rest (words text (outer ps)) (flat_map comments_in ps) part.after (parts_walk ps are.1) (Some (contents p)) begins in
      let joined : words text (p.after ++ outer ps) ≡ words text p.after ++ words text (outer ps) = map-append (word text) p.after (outer ps) in
      enter
      ∙ (ap (walk_over text (Inside p.begin.end begins)) whole
      ∙ (pass ∙ (walk_after ∙ ap (λ ws. picked begins ws (flat_map comments_in (p ∷ ps))) (sym joined))))

  -- the whole text
  text_walk : (tokens : List Span) (split : SplitsInto text (runs text) tokens)
      → walk_over text at_start (runs text) ≡ picked true (words text tokens) (comments_of split.first split.parts)
  text_walk tokens split =
      let all = plain_walk split.first (flat_map all_spans split.parts) (words text (outer split.parts)) (flat_map comments_in split.parts) split.plain (parts_walk split.parts split.comments) None true in
      let joined : words text tokens ≡ words text split.first ++ words text (outer split.parts) = ap (words text) split.outside ∙ map-append (word text) split.first (outer split.parts) in
      ap (walk_over text at_start) split.whole ∙ (all ∙ ap (λ ws. picked true ws (comments_of split.first split.parts)) (sym joined))

-- ---- as many comments as tokens

count_before : (comment : Option Span) (tokens : List Span) → length (comments_before comment tokens) ≡ length tokens
count_before comment [] = refl
count_before comment (t ∷ tokens) = ap suc (count_before None tokens)

count_in : (ps : List CommentAndTokens) → length (flat_map comments_in ps) ≡ length (flat_map (λ (p : CommentAndTokens). p.after) ps)
count_in [] = refl
count_in (p ∷ ps) =
    let one = count_before (Some (contents p)) p.after in
    let more = count_in ps in
    omega (arith, one, more, length-append (comments_in p) (flat_map comments_in ps), length-append p.after (flat_map (λ (q : CommentAndTokens). q.after) ps))

count_of : (first : List Span) (ps : List CommentAndTokens) → length (comments_of first ps) ≡ length (first ++ flat_map (λ (p : CommentAndTokens). p.after) ps)
count_of first ps =
    let one = count_before None first in
    let more = count_in ps in
    omega (arith, one, more, length-append (comments_before None first) (flat_map comments_in ps), length-append first (flat_map (λ (p : CommentAndTokens). p.after) ps))

-- ---- the first tokens of statements

abbrev goes_on : Name → Bool
goes_on w = not (ends_statement w)

-- the tokens of a statement: only the last one ends a statement
record IsOne (tokens : List Name) : Type 0 where
  front : List Name
  last : Name
  whole : tokens ≡ front ++ last ∷ []
  on : list_all goes_on front ≡ true
  end : ends_statement last ≡ true

module _ (last : Name) (ws : List Name) (end : ends_statement last ≡ true) where
  -- the tokens after the first one have no descriptions
  pass_rest : (front : List Name) (comments : List (Option Span)) → list_all goes_on front ≡ true → length front < length comments
      → picked false (front ++ (last ∷ ws)) comments ≡ picked true ws (drop (suc (length front)) comments)
  pass_rest [] [] on room = absurd (omega (arith, room))
  pass_rest [] (c ∷ comments) on room = ap (λ b. picked b ws comments) end
  pass_rest (w ∷ front) [] on room = absurd (omega (arith, room))
  pass_rest (w ∷ front) (c ∷ comments) on room =
      let both : (goes_on w ≡ true) × (list_all goes_on front ≡ true) = and_parts (goes_on w) (list_all goes_on front) on in
      let stays : ends_statement w ≡ false = not_true (ends_statement w) both.0 in
      ap (λ b. picked b (front ++ (last ∷ ws)) comments) stays ∙ pass_rest front comments both.1 (omega (arith, room))

  -- the first token has its description
  pick_one : (front : List Name) (comments : List (Option Span)) → list_all goes_on front ≡ true → length front < length comments
      → picked true (front ++ (last ∷ ws)) comments ≡ first_of comments ∷ picked true ws (drop (suc (length front)) comments)
  pick_one [] [] on room = absurd (omega (arith, room))
  pick_one [] (c ∷ comments) on room = ap (λ b. c ∷ picked b ws comments) end
  pick_one (w ∷ front) [] on room = absurd (omega (arith, room))
  pick_one (w ∷ front) (c ∷ comments) on room =
      let both : (goes_on w ≡ true) × (list_all goes_on front ≡ true) = and_parts (goes_on w) (list_all goes_on front) on in
      let stays : ends_statement w ≡ false = not_true (ends_statement w) both.0 in
      ap (λ b. c ∷ picked b (front ++ (last ∷ ws)) comments) stays ∙ ap (λ l. c ∷ l) (pass_rest front comments both.1 (omega (arith, room)))

-- a word that does not end a statement passes the test for it, as symbols and labels do
on_of : (w : Name) → ends_statement w ≡ false → goes_on w ≡ true
on_of w e = ap (λ b. not b) e

symbols_on : (ws : List Name) → list_all is_symbol ws ≡ true → list_all goes_on ws ≡ true
symbols_on [] h = refl
symbols_on (w ∷ ws) h =
    let both : (is_symbol w ≡ true) × (list_all is_symbol ws ≡ true) = and_parts (is_symbol w) (list_all is_symbol ws) h in
    and_from (goes_on w) (list_all goes_on ws) (on_of w (symbol_goes_on w both.0)) (symbols_on ws both.1)

label_on : (label : Name) (rest : List Name) → is_label label ≡ true → list_all goes_on rest ≡ true → list_all goes_on (label ∷ rest) ≡ true
label_on label rest is on = and_from (goes_on label) (list_all goes_on rest) (on_of label (label_goes_on label is)) on

one_of : (s : Stmt) → is_shaped s ≡ true → IsOne (stmt_tokens s)
one_of Open h = record { front = []; last = codes "${"; whole = refl; on = refl; end = refl }
one_of Close h = record { front = []; last = codes "$}"; whole = refl; on = refl; end = refl }
one_of (Const ws) h = record { front = codes "$c" ∷ ws; last = codes "$."; whole = refl; on = symbols_on ws (symbols_of ws h); end = refl }
one_of (Var ws) h = record { front = codes "$v" ∷ ws; last = codes "$."; whole = refl; on = symbols_on ws (symbols_of ws h); end = refl }
one_of (Disj ws) h = record { front = codes "$d" ∷ ws; last = codes "$."; whole = refl; on = symbols_on ws (symbols_of ws (and_parts (are_symbols ws) (has_two ws) h).0); end = refl }
one_of (Float label constant variable) h =
    let parts : ((is_label label && is_symbol constant) ≡ true) × (is_symbol variable ≡ true) = and_parts (is_label label && is_symbol constant) (is_symbol variable) h in
    let front : (is_label label ≡ true) × (is_symbol constant ≡ true) = and_parts (is_label label) (is_symbol constant) parts.0 in
    record {
      front = label ∷ codes "$f" ∷ constant ∷ variable ∷ [];
      last = codes "$.";
      whole = refl;
      on = label_on label (codes "$f" ∷ constant ∷ variable ∷ []) front.0 (symbols_on (constant ∷ variable ∷ []) (and_from (is_symbol constant) (list_all is_symbol (variable ∷ [])) front.1 (and_from (is_symbol variable) true parts.1 refl)));
      end = refl;
    }
one_of (Ess label expr) h =
    let parts : (is_label label ≡ true) × (are_symbols expr ≡ true) = and_parts (is_label label) (are_symbols expr) h in
    record { front = label ∷ codes "$e" ∷ expr; last = codes "$."; whole = refl; on = label_on label (codes "$e" ∷ expr) parts.0 (symbols_on expr (symbols_of expr parts.1)); end = refl }
one_of (Axiom label expr) h =
    let parts : (is_label label ≡ true) × (are_symbols expr ≡ true) = and_parts (is_label label) (are_symbols expr) h in
    record { front = label ∷ codes "$a" ∷ expr; last = codes "$."; whole = refl; on = label_on label (codes "$a" ∷ expr) parts.0 (symbols_on expr (symbols_of expr parts.1)); end = refl }
one_of (Prove label expr proof) h =
    let both : ((is_label label && are_symbols expr) ≡ true) × (list_all is_symbol proof ≡ true) = and_parts (is_label label && are_symbols expr) (list_all is_symbol proof) h in
    let parts : (is_label label ≡ true) × (are_symbols expr ≡ true) = and_parts (is_label label) (are_symbols expr) both.0 in
    record {
      front = label ∷ codes "$p" ∷ (expr ++ (codes "$=" ∷ proof));
      last = codes "$.";
      whole = ap (λ r. label ∷ codes "$p" ∷ r) (sym (append_assoc expr (codes "$=" ∷ proof) (codes "$." ∷ [])));
      on = label_on label (codes "$p" ∷ (expr ++ (codes "$=" ∷ proof))) parts.0
          (list_all-append goes_on expr (codes "$=" ∷ proof) ∙ and_from (list_all goes_on expr) (list_all goes_on proof) (symbols_on expr (symbols_of expr parts.1)) (symbols_on proof both.1));
      end = refl;
    }

-- the descriptions of statements are the comments of their first tokens
statements_picked : (S : Database) (comments : List (Option Span)) → AreShaped S → length (tokens_of S) ≤ length comments → picked true (tokens_of S) comments ≡ statement_comments S comments
statements_picked [] comments h room = refl
statements_picked (s ∷ S) comments h room =
    let both : (is_shaped s ≡ true) × AreShaped S = and_parts (is_shaped s) (list_all is_shaped S) h in
    let one : IsOne (stmt_tokens s) = one_of s both.0 in
    let count : length (stmt_tokens s) ≡ suc (length one.front) = ap length one.whole ∙ omega (arith, length-append one.front (one.last ∷ [])) in
    let total = length-append (stmt_tokens s) (tokens_of S) in
    let whole : stmt_tokens s ++ tokens_of S ≡ one.front ++ (one.last ∷ tokens_of S) = ap (λ r. r ++ tokens_of S) one.whole ∙ append_assoc one.front (one.last ∷ []) (tokens_of S) in
    let here = pick_one one.last (tokens_of S) one.end one.front comments one.on (omega (arith, count, total, room)) in
    let split : drop (suc (length one.front)) comments ≡ drop (length (stmt_tokens s)) comments = ap (λ n. drop n comments) (sym count) in
    let left = length-drop (length (stmt_tokens s)) comments in
    let more = statements_picked S (drop (length (stmt_tokens s)) comments) both.1 (omega (arith, left, total, room)) in
    ap (λ ws. picked true ws comments) whole
    ∙ (here ∙ (ap (λ l. first_of comments ∷ picked true (tokens_of S) l) split ∙ ap (λ l. first_of comments ∷ l) more))

-- the list that the walk gives is that of the descriptions
pub walk_describes : (text : List ℕ) (S : Database) (list : List (Option Span)) → Reads text S → list ≡ walk_over text at_start (runs text) → AreDescriptions text S list
walk_describes text S list reads e =
    let tokens : List Span = reads.tokens.0 in
    let split : SplitsInto text (runs text) tokens = reads.tokens.1.1 in
    let count : length (comments_of split.first split.parts) ≡ length tokens = count_of split.first split.parts ∙ ap length (sym split.outside) in
    let words_are : words text tokens ≡ tokens_of S = reads.tokens.2 in
    let as_many : length (tokens_of S) ≡ length tokens = ap length (sym words_are) ∙ length-map tokens (word text) in
    let picks = text_walk text tokens split in
    let named = ap (λ ws. picked true ws (comments_of split.first split.parts)) words_are in
    let found = statements_picked S (comments_of split.first split.parts) reads.shaped (omega (arith, count, as_many)) in
    (tokens, split, e ∙ (picks ∙ (named ∙ found)))
