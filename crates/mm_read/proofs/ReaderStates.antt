-- A machine that reads the tokens of statements one by one, and continues exactly as long as some
-- list of statements begins with the tokens read.
use Rattle.mm_read.proofs.Words.{◌≡◌, ℕ, ◌≤◌, zero, suc, Bool, true, false, ◌&&◌, cond, List, [], ◌∷◌, ◌++◌, length, Option, Some, None, codes, list_all, option_and_then, sym, ◌∙◌, ap, arith, refl, subst, and_parts, option_and_then_some, same_Some, Name, name_eq, is_symbol, is_label, Stmt, Open, Close, Const, Var, Disj, Float, Ess, Axiom, Prove, Database, AreShaped, is_shaped, stmt_tokens, tokens_of, IsStatementsPrefix}
pub use Rattle.mm_lex.proofs.NameLemmas.{same_name as same}
use Rattle.mm_read.proofs.StatementsLemmas.{append_middle, are_symbols_of, has_two_of}

-- the part that is expected next: a statement, the keyword after a label, at least (or exactly) so
-- many symbols and then `$.`, at least so many symbols and then `$=`
pub data ReaderState : Type 0 where
  between : ReaderState
  labelled : ReaderState
  listing : ℕ → ReaderState
  floating : ℕ → ReaderState
  proving : ℕ → ReaderState

abbrev pub step : ReaderState → Name → Option ReaderState
step between t =
    cond (name_eq t (codes "${")) (Some between)
    (cond (name_eq t (codes "$}")) (Some between)
    (cond (name_eq t (codes "$c")) (Some (listing 1))
    (cond (name_eq t (codes "$v")) (Some (listing 1))
    (cond (name_eq t (codes "$d")) (Some (listing 2))
    (cond (is_label t) (Some labelled) None)))))
step labelled t =
    cond (name_eq t (codes "$f")) (Some (floating 2))
    (cond (name_eq t (codes "$e")) (Some (listing 1))
    (cond (name_eq t (codes "$a")) (Some (listing 1))
    (cond (name_eq t (codes "$p")) (Some (proving 1)) None)))
step (listing zero) t = cond (is_symbol t) (Some (listing 0)) (cond (name_eq t (codes "$.")) (Some between) None)
step (listing (suc n)) t = cond (is_symbol t) (Some (listing n)) None
step (floating zero) t = cond (name_eq t (codes "$.")) (Some between) None
step (floating (suc n)) t = cond (is_symbol t) (Some (floating n)) None
step (proving zero) t = cond (is_symbol t) (Some (proving 0)) (cond (name_eq t (codes "$=")) (Some (listing 0)) None)
step (proving (suc n)) t = cond (is_symbol t) (Some (proving n)) None

abbrev pub go : ReaderState → List Name → Option ReaderState
go q [] = Some q
go q (t ∷ tokens) = option_and_then (λ p. go p tokens) (step q t)

pub go-append : (q : ReaderState) (xs ys : List Name) → go q (xs ++ ys) ≡ option_and_then (λ p. go p ys) (go q xs)
go-append q [] ys = refl
go-append q (t ∷ xs) ys = by (λ p. go-append p xs ys) (step q t)
  where
    by : ((p : ReaderState) → go p (xs ++ ys) ≡ option_and_then (λ r. go r ys) (go p xs)) → (o : Option ReaderState)
        → option_and_then (λ p. go p (xs ++ ys)) o ≡ option_and_then (λ p. go p ys) (option_and_then (λ p. go p xs) o)
    by rest None = refl
    by rest (Some p) = rest p

-- ---- the tokens that can follow in a state

abbrev pub CanFollow : ReaderState → List Name → Type 0
CanFollow between tokens = (S : Database) × AreShaped S × (tokens_of S ≡ tokens)
CanFollow labelled tokens = (label : Name) → is_label label ≡ true → (S : Database) × AreShaped S × (tokens_of S ≡ label ∷ tokens)
CanFollow (listing n) tokens =
    (ws : List Name) × (S : Database) × (list_all is_symbol ws ≡ true) × (n ≤ length ws) × AreShaped S × (ws ++ codes "$." ∷ tokens_of S ≡ tokens)
CanFollow (floating n) tokens =
    (ws : List Name) × (S : Database) × (list_all is_symbol ws ≡ true) × (length ws ≡ n) × AreShaped S × (ws ++ codes "$." ∷ tokens_of S ≡ tokens)
CanFollow (proving n) tokens =
    (ws : List Name) × (proof : List Name) × (S : Database) × (list_all is_symbol ws ≡ true) × (list_all is_symbol proof ≡ true) × (n ≤ length ws) × AreShaped S
    × (ws ++ codes "$=" ∷ (proof ++ codes "$." ∷ tokens_of S) ≡ tokens)

-- one more statement in front of the others
add : (s : Stmt) (S : Database) (tokens : List Name) → is_shaped s ≡ true → AreShaped S → stmt_tokens s ++ tokens_of S ≡ tokens → CanFollow between tokens
add s S tokens hs hS e = (s ∷ S, rw hs hS, e)

-- after a keyword: a list of symbols and `$.`
list_follows : (make : List Name → Stmt) (k : Name) (n : ℕ) (tokens : List Name)
    → ((ws : List Name) → list_all is_symbol ws ≡ true → n ≤ length ws → is_shaped (make ws) ≡ true)
    → ((ws : List Name) → stmt_tokens (make ws) ≡ k ∷ (ws ++ codes "$." ∷ []))
    → CanFollow (listing n) tokens → CanFollow between (k ∷ tokens)
list_follows make k n tokens shaped whole_of (ws, S, all, many, hS, e) =
    add (make ws) S (k ∷ tokens) (shaped ws all many) hS
    (ap (λ r. r ++ tokens_of S) (whole_of ws) ∙ ap (λ r. k ∷ r) (append_middle ws (codes "$.") [] (tokens_of S) ∙ e))

-- after a label and a keyword: a list of symbols and `$.`
labelled_follows : (make : List Name → Stmt) (label k : Name) (tokens : List Name)
    → ((ws : List Name) → list_all is_symbol ws ≡ true → 1 ≤ length ws → is_shaped (make ws) ≡ true)
    → ((ws : List Name) → stmt_tokens (make ws) ≡ label ∷ k ∷ (ws ++ codes "$." ∷ []))
    → CanFollow (listing 1) tokens → CanFollow between (label ∷ k ∷ tokens)
labelled_follows make label k tokens shaped whole_of (ws, S, all, many, hS, e) =
    add (make ws) S (label ∷ k ∷ tokens) (shaped ws all many) hS
    (ap (λ r. r ++ tokens_of S) (whole_of ws) ∙ ap (λ r. label ∷ k ∷ r) (append_middle ws (codes "$.") [] (tokens_of S) ∙ e))

-- after a label and `$f`: two symbols and `$.`
float_follows : (label : Name) (tokens : List Name) → is_label label ≡ true → CanFollow (floating 2) tokens → CanFollow between (label ∷ codes "$f" ∷ tokens)
float_follows label tokens h ([], S, all, two, hS, e) = absurd (omega (arith, two))
float_follows label tokens h (c ∷ [], S, all, two, hS, e) = absurd (omega (arith, two))
float_follows label tokens h (c ∷ v ∷ [], S, all, two, hS, e) =
    let c_parts : (is_symbol c ≡ true) × ((is_symbol v && true) ≡ true) = and_parts (is_symbol c) (is_symbol v && true) all in
    let v_parts : (is_symbol v ≡ true) × (true ≡ true) = and_parts (is_symbol v) true c_parts.1 in
    add (Float label c v) S (label ∷ codes "$f" ∷ tokens) (rw (h, c_parts.0) v_parts.0) hS (ap (λ r. label ∷ codes "$f" ∷ r) e)
float_follows label tokens h (c ∷ v ∷ u ∷ ws, S, all, two, hS, e) = absurd (omega (arith, two))

-- after a label and `$p`: an expression, `$=`, a proof and `$.`
prove_follows : (label : Name) (tokens : List Name) → is_label label ≡ true → CanFollow (proving 1) tokens → CanFollow between (label ∷ codes "$p" ∷ tokens)
prove_follows label tokens h (ws, proof, S, all, all_proof, many, hS, e) =
    add (Prove label ws proof) S (label ∷ codes "$p" ∷ tokens) (rw (h, are_symbols_of ws all many) all_proof) hS
    (ap (λ r. label ∷ codes "$p" ∷ r) (append_middle ws (codes "$=") (proof ++ codes "$." ∷ []) (tokens_of S) ∙ (ap (λ r. ws ++ codes "$=" ∷ r) (append_middle proof (codes "$.") [] (tokens_of S)) ∙ e)))

-- ---- a step back

-- a state that is one of two, by a test
chosen : {P : Type 0} (b : Bool) (q p : ReaderState) (o : Option ReaderState) → cond b (Some q) o ≡ Some p → (b ≡ true → q ≡ p → P) → (o ≡ Some p → P) → P
chosen true q p o e then_so else_so = then_so refl cc
chosen false q p o e then_so else_so = else_so e

-- a step that stops leads to no state
no_place : {P : Type 0} (p : ReaderState) → ◌≡◌ {A = Option ReaderState} None (Some p) → P
no_place p e = absurd (none e)
  where
    none : ◌≡◌ {A = Option ReaderState} None (Some p) → ⊥
    none e = cc

module _ (t : Name) (p : ReaderState) (tokens : List Name) (after : CanFollow p tokens) where
  -- the token is this keyword, or the other case applies
  keyword : (r : ReaderState) (k : Name) (q : ReaderState) (o : Option ReaderState) → cond (name_eq t k) (Some q) o ≡ Some p
      → (CanFollow q tokens → CanFollow r (k ∷ tokens)) → (o ≡ Some p → CanFollow r (t ∷ tokens)) → CanFollow r (t ∷ tokens)
  keyword r k q o e written =
      chosen (name_eq t k) q p o e (λ is at. subst (λ w. CanFollow r (w ∷ tokens)) (sym (same t k is)) (written (subst (λ x. CanFollow x tokens) (sym at) after)))

  -- the token is a symbol, or the other case applies
  symbol : (r q : ReaderState) (o : Option ReaderState) → cond (is_symbol t) (Some q) o ≡ Some p
      → (is_symbol t ≡ true → CanFollow q tokens → CanFollow r (t ∷ tokens)) → (o ≡ Some p → CanFollow r (t ∷ tokens)) → CanFollow r (t ∷ tokens)
  symbol r q o e written = chosen (is_symbol t) q p o e (λ is at. written is (subst (λ x. CanFollow x tokens) (sym at) after))

module _ (t : Name) (tokens : List Name) (is : is_symbol t ≡ true) where
  -- one more symbol, of those that a list requires
  listing_more : (n : ℕ) → CanFollow (listing n) tokens → CanFollow (listing (suc n)) (t ∷ tokens)
  listing_more n (ws, S, all, many, hS, e) = (t ∷ ws, S, rw is all, omega (arith, many), hS, ap (λ r. t ∷ r) e)

  -- one more symbol, of a list that requires no more
  listing_any : CanFollow (listing 0) tokens → CanFollow (listing 0) (t ∷ tokens)
  listing_any (ws, S, all, many, hS, e) = (t ∷ ws, S, rw is all, omega arith, hS, ap (λ r. t ∷ r) e)

  -- one more symbol of a `$f`
  floating_more : (n : ℕ) → CanFollow (floating n) tokens → CanFollow (floating (suc n)) (t ∷ tokens)
  floating_more n (ws, S, all, many, hS, e) = (t ∷ ws, S, rw is all, omega (arith, many), hS, ap (λ r. t ∷ r) e)

  -- one more symbol, of those that an expression requires
  proving_more : (n : ℕ) → CanFollow (proving n) tokens → CanFollow (proving (suc n)) (t ∷ tokens)
  proving_more n (ws, proof, S, all, all_proof, many, hS, e) = (t ∷ ws, proof, S, rw is all, all_proof, omega (arith, many), hS, ap (λ r. t ∷ r) e)

  -- one more symbol, of an expression that requires no more
  proving_any : CanFollow (proving 0) tokens → CanFollow (proving 0) (t ∷ tokens)
  proving_any (ws, proof, S, all, all_proof, many, hS, e) = (t ∷ ws, proof, S, rw is all, all_proof, omega arith, hS, ap (λ r. t ∷ r) e)

-- `$.` ends a list, and statements follow
list_ends : (tokens : List Name) → CanFollow between tokens → CanFollow (listing 0) (codes "$." ∷ tokens)
list_ends tokens (S, hS, e) = ([], S, refl, omega arith, hS, ap (λ r. codes "$." ∷ r) e)

-- `$.` ends a `$f`
float_ends : (tokens : List Name) → CanFollow between tokens → CanFollow (floating 0) (codes "$." ∷ tokens)
float_ends tokens (S, hS, e) = ([], S, refl, refl, hS, ap (λ r. codes "$." ∷ r) e)

-- `$=` ends an expression, and a proof follows
proof_begins : (tokens : List Name) → CanFollow (listing 0) tokens → CanFollow (proving 0) (codes "$=" ∷ tokens)
proof_begins tokens (proof, S, all, many, hS, e) = ([], proof, S, refl, all, omega arith, hS, ap (λ r. codes "$=" ∷ r) e)

-- tokens that can follow after a token can follow before it, with this token in front
back : (q : ReaderState) (t : Name) (p : ReaderState) (tokens : List Name) → step q t ≡ Some p → CanFollow p tokens → CanFollow q (t ∷ tokens)
back between t p tokens e after =
    keyword t p tokens after between (codes "${") between _ e (λ (S, hS, is). add Open S (codes "${" ∷ tokens) refl hS (ap (λ r. codes "${" ∷ r) is)) (λ e1.
    keyword t p tokens after between (codes "$}") between _ e1 (λ (S, hS, is). add Close S (codes "$}" ∷ tokens) refl hS (ap (λ r. codes "$}" ∷ r) is)) (λ e2.
    keyword t p tokens after between (codes "$c") (listing 1) _ e2 (list_follows Const (codes "$c") 1 tokens are_symbols_of (λ _. refl)) (λ e3.
    keyword t p tokens after between (codes "$v") (listing 1) _ e3 (list_follows Var (codes "$v") 1 tokens are_symbols_of (λ _. refl)) (λ e4.
    keyword t p tokens after between (codes "$d") (listing 2) _ e4
    (list_follows Disj (codes "$d") 2 tokens (λ ws all many. rw (are_symbols_of ws all (omega (arith, many))) (has_two_of ws many)) (λ _. refl)) (λ e5.
    chosen (is_label t) labelled p None e5 (λ is at. let f : CanFollow labelled tokens = subst (λ x. CanFollow x tokens) (sym at) after in f t is) (no_place p))))))
back labelled t p tokens e after =
    keyword t p tokens after labelled (codes "$f") (floating 2) _ e (λ f label h. float_follows label tokens h f) (λ e1.
    keyword t p tokens after labelled (codes "$e") (listing 1) _ e1
    (λ f label h. labelled_follows (Ess label) label (codes "$e") tokens (λ ws all many. rw h (are_symbols_of ws all many)) (λ _. refl) f) (λ e2.
    keyword t p tokens after labelled (codes "$a") (listing 1) _ e2
    (λ f label h. labelled_follows (Axiom label) label (codes "$a") tokens (λ ws all many. rw h (are_symbols_of ws all many)) (λ _. refl) f) (λ e3.
    keyword t p tokens after labelled (codes "$p") (proving 1) None e3 (λ f label h. prove_follows label tokens h f) (no_place p))))
back (listing zero) t p tokens e after =
    symbol t p tokens after (listing 0) (listing 0) _ e (listing_any t tokens) (λ e1.
    keyword t p tokens after (listing 0) (codes "$.") between None e1 (list_ends tokens) (no_place p))
back (listing (suc n)) t p tokens e after = symbol t p tokens after (listing (suc n)) (listing n) None e (λ is. listing_more t tokens is n) (no_place p)
back (floating zero) t p tokens e after = keyword t p tokens after (floating 0) (codes "$.") between None e (float_ends tokens) (no_place p)
back (floating (suc n)) t p tokens e after = symbol t p tokens after (floating (suc n)) (floating n) None e (λ is. floating_more t tokens is n) (no_place p)
back (proving zero) t p tokens e after =
    symbol t p tokens after (proving 0) (proving 0) _ e (proving_any t tokens) (λ e1.
    keyword t p tokens after (proving 0) (codes "$=") (listing 0) None e1 (proof_begins tokens) (no_place p))
back (proving (suc n)) t p tokens e after = symbol t p tokens after (proving (suc n)) (proving n) None e (λ is. proving_more t tokens is n) (no_place p)

-- tokens that can follow after other tokens can follow before them, with these in front
pub go_back : (q : ReaderState) (xs : List Name) (p : ReaderState) (tokens : List Name) → go q xs ≡ Some p → CanFollow p tokens → CanFollow q (xs ++ tokens)
go_back q [] p tokens e after = subst (λ x. CanFollow x tokens) (sym (same_Some q p e)) after
go_back q (t ∷ xs) p tokens e after =
    option_and_then_some (λ r. go r xs) (step q t) p e (λ r is rest. back q t r (xs ++ tokens) is (go_back r xs p tokens rest after))

-- ---- some tokens can follow in each state

-- a list of as many symbols as required
symbols : ℕ → List Name
symbols zero = []
symbols (suc n) = codes "a" ∷ symbols n

all-symbols : (n : ℕ) → list_all is_symbol (symbols n) ≡ true
unfolding symbols
all-symbols zero = refl
all-symbols (suc n) = all-symbols n

length-symbols : (n : ℕ) → length (symbols n) ≡ n
unfolding symbols
length-symbols zero = refl
length-symbols (suc n) = omega (arith, length-symbols n)

-- in each state some tokens can follow
leaves : (q : ReaderState) → (tokens : List Name) × CanFollow q tokens
leaves between = ([], ([], refl, refl))
leaves labelled = (codes "$a" ∷ codes "a" ∷ codes "$." ∷ [], λ label h. (Axiom label (codes "a" ∷ []) ∷ [], rw h refl, refl))
leaves (listing n) = (symbols n ++ codes "$." ∷ [], (symbols n, [], all-symbols n, omega (arith, length-symbols n), refl, refl))
leaves (floating n) = (symbols n ++ codes "$." ∷ [], (symbols n, [], all-symbols n, length-symbols n, refl, refl))
leaves (proving n) = (symbols n ++ codes "$=" ∷ codes "$." ∷ [], (symbols n, [], [], all-symbols n, refl, omega (arith, length-symbols n), refl, refl))

-- if the machine passes over some tokens, they begin some list of statements
pub can_go_on : (xs : List Name) (p : ReaderState) → go between xs ≡ Some p → IsStatementsPrefix xs
can_go_on xs p e =
    let way : (tokens : List Name) × CanFollow p tokens = leaves p in
    let found : CanFollow between (xs ++ way.0) = go_back between xs p way.0 e way.1 in
    record { statements = found.0; rest = way.0; shaped = found.1; whole = found.2 }
