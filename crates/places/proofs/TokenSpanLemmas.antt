-- The tokens that end statements, and the span of a token of a statement.
use Rattle.places.proofs.Words.{◌≡◌, ℕ, zero, suc, ◌+◌, ◌-◌, ◌<◌, ◌≤◌, true, false, ◌&&◌, cond, List, [], ◌∷◌, ◌++◌, length, take, drop, get_or, refl, sym, ◌∙◌, ap, arith, append_assoc, length-append, Some, slice_get, codes, zero-add, IsSomeAnd, Option, None, slice_get_within, slice_get-get_or, length-map, drop-cons, list_all, and_parts, Span, Name, name_eq, is_symbol, is_label, has_byte, word, AreTokens, words, Stmt, Open, Close, Const, Var, Disj, Float, Ess, Axiom, Prove, Database, is_shaped, AreShaped, are_symbols, has_two, stmt_tokens, tokens_of, Reads, AreTokens-unique, symbol_plain, label_plain, symbols_of, plain_is_no_key, Result, Ok, Err, IsErrAnd, LexFault, HasToken, counted_token, token_index, IsTokenSpan, ends_statement, index_after_ends}

-- ---- one end of a statement

-- a word without `$` ends no statement
plain_goes_on : (w : Name) → has_byte 36 w ≡ false → ends_statement w ≡ false
plain_goes_on w plain =
    let a : name_eq w (codes "$.") ≡ false = plain_is_no_key w (codes "$.") plain refl in
    let b : name_eq w (codes "${") ≡ false = plain_is_no_key w (codes "${") plain refl in
    let c : name_eq w (codes "$}") ≡ false = plain_is_no_key w (codes "$}") plain refl in
    grind (arith, a, b, c)

-- a symbol ends no statement
pub symbol_goes_on : (w : Name) → is_symbol w ≡ true → ends_statement w ≡ false
symbol_goes_on w h = plain_goes_on w (symbol_plain w h)

-- a label ends no statement
pub label_goes_on : (w : Name) → is_label w ≡ true → ends_statement w ≡ false
label_goes_on w h = plain_goes_on w (label_plain w h)

-- one token that ends no statement is passed over ..
pass_one : (n : ℕ) (w : Name) (ws : List Name) → ends_statement w ≡ false → index_after_ends (suc n) (w ∷ ws) ≡ suc (index_after_ends (suc n) ws)
pass_one n w ws goes = ap (λ b. suc (index_after_ends (cond b n (suc n)) ws)) goes

-- .. and so are the symbols of a list
pass_symbols : (n : ℕ) (xs ws : List Name) → list_all is_symbol xs ≡ true → index_after_ends (suc n) (xs ++ ws) ≡ length xs + index_after_ends (suc n) ws
pass_symbols n [] ws h = sym (zero-add _)
pass_symbols n (x ∷ xs) ws h =
    let parts : (is_symbol x ≡ true) × (list_all is_symbol xs ≡ true) = and_parts (is_symbol x) (list_all is_symbol xs) h in
    let one = pass_one n x (xs ++ ws) (symbol_goes_on x parts.0) in
    let rest = pass_symbols n xs ws parts.1 in
    one ∙ omega (arith, rest)

-- the last token of a statement ends it
module _ (n : ℕ) (ws : List Name) where
  -- a token that ends a statement is counted, and passed over
  past_end : (w : Name) → ends_statement w ≡ true → index_after_ends (suc n) (w ∷ ws) ≡ suc (index_after_ends n ws)
  past_end w e = ap (λ b. suc (index_after_ends (cond b n (suc n)) ws)) e

  -- symbols, and then `$.`
  past_list : (xs : List Name) → list_all is_symbol xs ≡ true → index_after_ends (suc n) ((xs ++ codes "$." ∷ []) ++ ws) ≡ length (xs ++ codes "$." ∷ []) + index_after_ends n ws
  past_list xs h =
      let whole : (xs ++ codes "$." ∷ []) ++ ws ≡ xs ++ (codes "$." ∷ ws) = append_assoc xs (codes "$." ∷ []) ws in
      let passed = pass_symbols n xs (codes "$." ∷ ws) h in
      let last = past_end (codes "$.") refl in
      ap (index_after_ends (suc n)) whole ∙ omega (arith, passed, last, length-append xs (codes "$." ∷ []))

  -- a label and a keyword, in front of the tokens that end the statement
  past_labelled : (label k : Name) (rest : List Name) → is_label label ≡ true → ends_statement k ≡ false → index_after_ends (suc n) (rest ++ ws) ≡ length rest + index_after_ends n ws
      → index_after_ends (suc n) (label ∷ k ∷ (rest ++ ws)) ≡ length (label ∷ k ∷ rest) + index_after_ends n ws
  past_labelled label k rest is goes e =
      let one = pass_one n label (k ∷ (rest ++ ws)) (label_goes_on label is) in
      let two = pass_one n k (rest ++ ws) goes in
      omega (arith, one, two, e)

  -- an expression, `$=`, and a proof up to its `$.`
  past_proof : (expr proof : List Name) → list_all is_symbol expr ≡ true → list_all is_symbol proof ≡ true
      → index_after_ends (suc n) ((expr ++ codes "$=" ∷ (proof ++ codes "$." ∷ [])) ++ ws) ≡ length (expr ++ codes "$=" ∷ (proof ++ codes "$." ∷ [])) + index_after_ends n ws
  past_proof expr proof h p =
      let rest : List Name = proof ++ codes "$." ∷ [] in
      let whole : (expr ++ codes "$=" ∷ rest) ++ ws ≡ expr ++ (codes "$=" ∷ (rest ++ ws)) = append_assoc expr (codes "$=" ∷ rest) ws in
      let passed = pass_symbols n expr (codes "$=" ∷ (rest ++ ws)) h in
      let one = pass_one n (codes "$=") (rest ++ ws) refl in
      let last = past_list proof p in
      ap (index_after_ends (suc n)) whole ∙ omega (arith, passed, one, last, length-append expr (codes "$=" ∷ rest))

  -- a statement that is well shaped
  past_statement : (s : Stmt) → is_shaped s ≡ true → index_after_ends (suc n) (stmt_tokens s ++ ws) ≡ length (stmt_tokens s) + index_after_ends n ws
  past_statement Open h = past_end (codes "${") refl ∙ omega arith
  past_statement Close h = past_end (codes "$}") refl ∙ omega arith
  past_statement (Const xs) h = let one = pass_one n (codes "$c") ((xs ++ codes "$." ∷ []) ++ ws) refl in let rest = past_list xs (symbols_of xs h) in omega (arith, one, rest)
  past_statement (Var xs) h = let one = pass_one n (codes "$v") ((xs ++ codes "$." ∷ []) ++ ws) refl in let rest = past_list xs (symbols_of xs h) in omega (arith, one, rest)
  past_statement (Disj xs) h =
      let one = pass_one n (codes "$d") ((xs ++ codes "$." ∷ []) ++ ws) refl in
      let rest = past_list xs (symbols_of xs (and_parts (are_symbols xs) (has_two xs) h).0) in omega (arith, one, rest)
  past_statement (Float label constant variable) h =
      let parts : ((is_label label && is_symbol constant) ≡ true) × (is_symbol variable ≡ true) = and_parts (is_label label && is_symbol constant) (is_symbol variable) h in
      let front : (is_label label ≡ true) × (is_symbol constant ≡ true) = and_parts (is_label label) (is_symbol constant) parts.0 in
      past_labelled label (codes "$f") (constant ∷ variable ∷ codes "$." ∷ []) front.0 refl
      (let one = pass_one n constant (variable ∷ codes "$." ∷ ws) (symbol_goes_on constant front.1) in
      let two = pass_one n variable (codes "$." ∷ ws) (symbol_goes_on variable parts.1) in
      let last = past_end (codes "$.") refl in omega (arith, one, two, last))
  past_statement (Ess label expr) h =
      let parts : (is_label label ≡ true) × (are_symbols expr ≡ true) = and_parts (is_label label) (are_symbols expr) h in
      past_labelled label (codes "$e") (expr ++ codes "$." ∷ []) parts.0 refl (past_list expr (symbols_of expr parts.1))
  past_statement (Axiom label expr) h =
      let parts : (is_label label ≡ true) × (are_symbols expr ≡ true) = and_parts (is_label label) (are_symbols expr) h in
      past_labelled label (codes "$a") (expr ++ codes "$." ∷ []) parts.0 refl (past_list expr (symbols_of expr parts.1))
  past_statement (Prove label expr proof) h =
      let both : ((is_label label && are_symbols expr) ≡ true) × (list_all is_symbol proof ≡ true) = and_parts (is_label label && are_symbols expr) (list_all is_symbol proof) h in
      let parts : (is_label label ≡ true) × (are_symbols expr ≡ true) = and_parts (is_label label) (are_symbols expr) both.0 in
      past_labelled label (codes "$p") (expr ++ codes "$=" ∷ (proof ++ codes "$." ∷ [])) parts.0 refl (past_proof expr proof (symbols_of expr parts.1) both.1)

-- the index after `n` ends is the number of tokens of the first `n` statements
past_statements : (n : ℕ) (S : Database) → AreShaped S → n ≤ length S → index_after_ends n (tokens_of S) ≡ length (tokens_of (take n S))
past_statements zero S h within = refl
past_statements (suc n) [] h within = absurd (omega (arith, within))
past_statements (suc n) (s ∷ S) h within =
    let parts : (is_shaped s ≡ true) × (AreShaped S) = and_parts (is_shaped s) (list_all is_shaped S) h in
    let rest = past_statements n S parts.1 (omega (arith, within)) in
    past_statement n (tokens_of S) s parts.0 ∙ omega (arith, rest, length-append (stmt_tokens s) (tokens_of (take n S)))

-- ---- the search for the span

-- the words of the spans from an index on are the word there and then those after it
pub words_drop : (text : List ℕ) (spans : List Span) (i : ℕ) (d : Span) → i < length spans → words text (drop i spans) ≡ word text (get_or spans i d) ∷ words text (drop (suc i) spans)
words_drop text spans i d h = ap (words text) (drop-cons spans i d h)

-- one more token
pub one_token : (text : List ℕ) (spans : List Span) (i left next : ℕ) (d : Span) → i < length spans → 0 < left
    → next ≡ cond (ends_statement (word text (get_or spans i d))) (left - 1) left
    → i + index_after_ends left (words text (drop i spans)) ≡ (i + 1) + index_after_ends next (words text (drop (i + 1) spans))
one_token text spans i zero next d h some e = absurd (omega (arith, some))
one_token text spans i (suc left) next d h some e =
    let w : Name = word text (get_or spans i d) in
    let down : suc left - 1 ≡ left = omega arith in
    let is : next ≡ cond (ends_statement w) left (suc left) = e ∙ ap (λ k. cond (ends_statement w) k (suc left)) down in
    let opened = ap (index_after_ends (suc left)) (words_drop text spans i d h) in
    let after : suc i ≡ i + 1 = omega arith in
    let step : index_after_ends (suc left) (words text (drop i spans)) ≡ suc (index_after_ends next (words text (drop (i + 1) spans))) =
    opened ∙ (ap (λ k. suc (index_after_ends k (words text (drop (suc i) spans)))) (sym is) ∙ ap (λ k. suc (index_after_ends next (words text (drop k spans)))) after) in
    omega (arith, step)

-- the tokens before a statement and its own are at most as many as all tokens
room_for : (n : ℕ) (S : Database) (s : Stmt) → slice_get S n ≡ Some s → length (tokens_of (take n S)) + length (stmt_tokens s) ≤ length (tokens_of S)
room_for n [] s e = absurd (none_is e)
  where
    none_is : ◌≡◌ {A = Option Stmt} None (Some s) → ⊥
    none_is bad = cc
room_for zero (r ∷ S) s e =
    let same : r ≡ s = cc in
    let is : length (stmt_tokens r) ≡ length (stmt_tokens s) = ap (λ t. length (stmt_tokens t)) same in
    omega (arith, is, length-append (stmt_tokens r) (tokens_of S))
room_for (suc n) (r ∷ S) s e =
    let rest = room_for n S s e in
    omega (arith, rest, length-append (stmt_tokens r) (tokens_of S), length-append (stmt_tokens r) (tokens_of (take n S)))

-- the span at that index is the span of the token of the statement
some_span : (text : List ℕ) (spans : List Span) (S : Database) (statement token : ℕ) → AreTokens text spans → words text spans ≡ tokens_of S
    → (i : ℕ) → i ≡ token_index S statement token → i < length spans → (span : Option Span) → span ≡ slice_get spans i → IsSomeAnd span (IsTokenSpan text S statement token)
some_span text spans S statement token are written i at h None e = absurd (bad (e ∙ slice_get-get_or spans i (record { start = 0; end = 0 }) h))
  where
    bad : {x : Span} → None ≡ Some x → ⊥
    bad e = cc
some_span text spans S statement token are written i at h (Some p) e =
    record { tokens = spans; all_tokens = are; written = written; at_index = ap (slice_get spans) (sym at) ∙ sym e }

-- the span that is found is the span of the token of the statement
pub span_is : (text : List ℕ) (spans : List Span) (S : Database) (statement token : ℕ) → AreTokens text spans → Reads text S → (h : HasToken S statement token)
    → (span : Option Span) → span ≡ slice_get spans (index_after_ends (statement - 1) (words text spans) + (token - 1))
    → IsSomeAnd span (IsTokenSpan text S statement token)
span_is text spans S statement token are reads h span e =
    let had : List Span = reads.tokens.0 in
    let same : spans ≡ had = AreTokens-unique text spans had are reads.tokens.1 in
    let written : words text spans ≡ tokens_of S = ap (words text) same ∙ reads.tokens.2 in
    let inside : statement - 1 < length S = slice_get_within S (statement - 1) h.stmt h.is_there in
    let passed : index_after_ends (statement - 1) (tokens_of S) ≡ length (tokens_of (take (statement - 1) S)) = past_statements (statement - 1) S reads.shaped (omega (arith, inside)) in
    let i : ℕ = index_after_ends (statement - 1) (words text spans) + (token - 1) in
    let is : i ≡ token_index S statement token = ap (λ ws. index_after_ends (statement - 1) ws + (token - 1)) written ∙ ap (λ n. n + (token - 1)) passed in
    let room = room_for (statement - 1) S h.stmt h.is_there in
    let count : length (words text spans) ≡ length spans = length-map spans (word text) in
    let all : length (words text spans) ≡ length (tokens_of S) = ap length written in
    let some = h.token_from_one in
    let most = h.within in
    some_span text spans S statement token are written i is (omega (arith, is, room, count, all, some, most)) span e

-- ---- the token that is counted out

-- no token has a statement of number 0 ..
pub statement_zero : (text : List ℕ) (spans : List Span) (statement token : ℕ) → statement ≡ 0 → None ≡ counted_token text spans statement token
statement_zero text spans statement token zero_is = rw zero_is refl

-- .. or the number 0
pub token_zero : (text : List ℕ) (spans : List Span) (statement token : ℕ) → token ≡ 0 → None ≡ counted_token text spans statement token
token_zero text spans zero token zero_is = refl
token_zero text spans (suc n) token zero_is = rw zero_is refl

-- with numbers from 1 it is the one at the index after the ends of the earlier statements
pub counted_is : (text : List ℕ) (spans : List Span) (statement token : ℕ) → 1 ≤ statement → 1 ≤ token
    → counted_token text spans statement token ≡ slice_get spans (index_after_ends (statement - 1) (words text spans) + (token - 1))
counted_is text spans zero token some_statement some_token = absurd (omega (arith, some_statement))
counted_is text spans (suc n) zero some_statement some_token = absurd (omega (arith, some_token))
counted_is text spans (suc n) (suc k) some_statement some_token =
    let earlier : n ≡ suc n - 1 = omega arith in
    let own : k ≡ suc k - 1 = omega arith in
    ap (λ m. slice_get spans (index_after_ends m (words text spans) + k)) earlier ∙ ap (λ j. slice_get spans (index_after_ends (suc n - 1) (words text spans) + j)) own

-- the fault of the tokens is passed on
pub passed_on : (r : Result (Option Span) LexFault) (passed fault : LexFault) → IsErrAnd r (λ f. f ≡ passed) → passed ≡ fault → r ≡ Err fault
passed_on (Err f) passed fault h same = ap (λ (x : LexFault). let a : Result (Option Span) LexFault = Err x in a) (h ∙ same)
passed_on (Ok span) passed fault h same = elim h [ ]
