-- Each list of tokens reads as at most one list of statements: the statement at the front of the
-- tokens is found from the left, and it is the one that was written there.
use Rattle.mm_read.proofs.Words.{◌≡◌, true, ◌&&◌, cond, List, [], ◌∷◌, ◌++◌, Option, Some, None, codes, refl, list_all, sym, ◌∙◌, ap, and_parts, some_pair_parts, Name, name_eq, is_symbol, is_label, has_byte, Stmt, Open, Close, Const, Var, Disj, Float, Ess, Axiom, Prove, is_shaped, are_symbols, has_two, stmt_tokens, tokens_of, Database}
use Rattle.mm_read.specs.Laws as laws
use Rattle.mm_read.proofs.StatementsLemmas.{symbol_plain, label_plain, symbols_of, append_middle}

-- ---- the symbols at the front of a list of tokens

-- the tokens before the first that has a `$`, and the rest
record Front : Type 0 where
  names : List Name
  rest : List Name

abbrev with_front : Name → Front → Front
with_front t f = record { names = t ∷ f.names; rest = f.rest }

abbrev symbols_front : List Name → Front
symbols_front [] = record { names = []; rest = [] }
symbols_front (t ∷ tokens) = cond (has_byte 36 t) (record { names = []; rest = t ∷ tokens }) (with_front t (symbols_front tokens))

symbols_front-append : (ws rest : List Name) (k : Name) → has_byte 36 k ≡ true → list_all is_symbol ws ≡ true → symbols_front (ws ++ k ∷ rest) ≡ record { names = ws; rest = k ∷ rest }
symbols_front-append [] rest k e h = ap (λ b. cond b (record { names = []; rest = k ∷ rest }) (with_front k (symbols_front rest))) e
symbols_front-append (w ∷ ws) rest k e h =
    let parts : (is_symbol w ≡ true) × (list_all is_symbol ws ≡ true) = and_parts (is_symbol w) (list_all is_symbol ws) h in
    ap (λ b. cond b (record { names = []; rest = w ∷ (ws ++ k ∷ rest) }) (with_front w (symbols_front (ws ++ k ∷ rest)))) (symbol_plain w parts.0)
    ∙ ap (with_front w) (symbols_front-append ws rest k e parts.1)

-- ---- the statement at the front of a list of tokens

abbrev after_key : List Name → List Name
after_key [] = []
after_key (t ∷ tokens) = tokens

abbrev listing : (List Name → Stmt) → List Name → Option (Stmt × List Name)
listing make tokens = Some (make (symbols_front tokens).names, after_key (symbols_front tokens).rest)

abbrev proving : Name → List Name → List Name → Option (Stmt × List Name)
proving label expr tokens = Some (Prove label expr (symbols_front tokens).names, after_key (symbols_front tokens).rest)

abbrev floating : Name → List Name → Option (Stmt × List Name)
floating label (c ∷ v ∷ k ∷ rest) = Some (Float label c v, rest)
floating label tokens = None

abbrev keyword : Name → List Name → Option (Stmt × List Name)
keyword t tokens =
    cond (name_eq t (codes "${")) (Some (Open, tokens))
    (cond (name_eq t (codes "$}")) (Some (Close, tokens))
    (cond (name_eq t (codes "$c")) (listing Const tokens)
    (cond (name_eq t (codes "$v")) (listing Var tokens)
    (listing Disj tokens))))

abbrev labelled : Name → List Name → Option (Stmt × List Name)
labelled label [] = None
labelled label (t ∷ tokens) =
    cond (name_eq t (codes "$f")) (floating label tokens)
    (cond (name_eq t (codes "$e")) (listing (Ess label) tokens)
    (cond (name_eq t (codes "$a")) (listing (Axiom label) tokens)
    (proving label (symbols_front tokens).names (after_key (symbols_front tokens).rest))))

abbrev front : List Name → Option (Stmt × List Name)
front [] = None
front (t ∷ tokens) = cond (has_byte 36 t) (keyword t tokens) (labelled t tokens)

-- ---- it is the one that was written there

listing-written : (make : List Name → Stmt) (ws rest : List Name) → list_all is_symbol ws ≡ true → listing make ((ws ++ codes "$." ∷ []) ++ rest) ≡ Some (make ws, rest)
listing-written make ws rest h =
    ap (listing make) (append_middle ws (codes "$.") [] rest) ∙ ap (λ f. Some (make f.names, after_key f.rest)) (symbols_front-append ws rest (codes "$.") refl h)

front-labelled : (label : Name) (tokens : List Name) → is_label label ≡ true → front (label ∷ tokens) ≡ labelled label tokens
front-labelled label tokens h = ap (λ b. cond b (keyword label tokens) (labelled label tokens)) (label_plain label h)

pub front-written : (s : Stmt) (rest : List Name) → is_shaped s ≡ true → front (stmt_tokens s ++ rest) ≡ Some (s, rest)
front-written Open rest h = refl
front-written Close rest h = refl
front-written (Const ws) rest h = listing-written Const ws rest (symbols_of ws h)
front-written (Var ws) rest h = listing-written Var ws rest (symbols_of ws h)
front-written (Disj ws) rest h = listing-written Disj ws rest (symbols_of ws (and_parts (are_symbols ws) (has_two ws) h).0)
front-written (Float label constant variable) rest h =
    front-labelled label (codes "$f" ∷ constant ∷ variable ∷ codes "$." ∷ rest) (and_parts (is_label label) (is_symbol constant) (and_parts (is_label label && is_symbol constant) (is_symbol variable) h).0).0
front-written (Ess label expr) rest h =
    let parts : (is_label label ≡ true) × (are_symbols expr ≡ true) = and_parts (is_label label) (are_symbols expr) h in
    front-labelled label (codes "$e" ∷ ((expr ++ codes "$." ∷ []) ++ rest)) parts.0 ∙ listing-written (Ess label) expr rest (symbols_of expr parts.1)
front-written (Axiom label expr) rest h =
    let parts : (is_label label ≡ true) × (are_symbols expr ≡ true) = and_parts (is_label label) (are_symbols expr) h in
    front-labelled label (codes "$a" ∷ ((expr ++ codes "$." ∷ []) ++ rest)) parts.0 ∙ listing-written (Axiom label) expr rest (symbols_of expr parts.1)
front-written (Prove label expr proof) rest h =
    let both : ((is_label label && are_symbols expr) ≡ true) × (list_all is_symbol proof ≡ true) = and_parts (is_label label && are_symbols expr) (list_all is_symbol proof) h in
    let parts : (is_label label ≡ true) × (are_symbols expr ≡ true) = and_parts (is_label label) (are_symbols expr) both.0 in
    front-labelled label (codes "$p" ∷ ((expr ++ codes "$=" ∷ (proof ++ codes "$." ∷ [])) ++ rest)) parts.0
    ∙ (ap (λ tokens. proving label (symbols_front tokens).names (after_key (symbols_front tokens).rest)) (append_middle expr (codes "$=") (proof ++ codes "$." ∷ []) rest)
    ∙ (ap (λ f. proving label f.names (after_key f.rest)) (symbols_front-append expr ((proof ++ codes "$." ∷ []) ++ rest) (codes "$=") refl (symbols_of expr parts.1))
    ∙ listing-written (Prove label expr) proof rest both.1))

-- ---- one list of statements

-- a list with at least one statement has a token
pub no_tokens : (s : Stmt) (S : Database) → is_shaped s ≡ true → tokens_of (s ∷ S) ≡ [] → ⊥
no_tokens s S h e = none (sym (front-written s (tokens_of S) h) ∙ ap front e)
  where
    none : ◌≡◌ {A = Option (Stmt × List Name)} (Some (s, tokens_of S)) None → ⊥
    none bad = cc

-- if two statements are at the front of the same tokens, they are equal, and so are the rests
pub same_front : (s t : Stmt) (rest more : List Name) → is_shaped s ≡ true → is_shaped t ≡ true → stmt_tokens s ++ rest ≡ stmt_tokens t ++ more → (s ≡ t) × (rest ≡ more)
same_front s t rest more hs ht e =
    let both : ◌≡◌ {A = Option (Stmt × List Name)} (Some (s, rest)) (Some (t, more)) = sym (front-written s rest hs) ∙ (ap front e ∙ front-written t more ht) in
    some_pair_parts s t rest more both

-- the law: two lists of statements with the same tokens are equal
pub one_statement_list : laws.OneStatementList
one_statement_list [] [] hs ht e = refl
one_statement_list [] (t ∷ T) hs ht e = absurd (no_tokens t T (and_parts (is_shaped t) (list_all is_shaped T) ht).0 (sym e))
one_statement_list (s ∷ S) [] hs ht e = absurd (no_tokens s S (and_parts (is_shaped s) (list_all is_shaped S) hs).0 e)
one_statement_list (s ∷ S) (t ∷ T) hs ht e =
    let of_s : (is_shaped s ≡ true) × (list_all is_shaped S ≡ true) = and_parts (is_shaped s) (list_all is_shaped S) hs in
    let of_t : (is_shaped t ≡ true) × (list_all is_shaped T ≡ true) = and_parts (is_shaped t) (list_all is_shaped T) ht in
    let parts : (s ≡ t) × (tokens_of S ≡ tokens_of T) = same_front s t (tokens_of S) (tokens_of T) of_s.0 of_t.0 e in
    let rest : S ≡ T = one_statement_list S T of_s.1 of_t.1 parts.1 in
    ap (λ r. r ∷ S) parts.0 ∙ ap (λ r. t ∷ r) rest
