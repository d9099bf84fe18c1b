-- Distinct names, and statements by their kinds.
use Rattle.frame.proofs.Words.{◌&&◌, is_float_kind, second_is, sym, ◌∙◌, ap, subst, arith, take-take, ◌≡◌, ℕ, zero, suc, ◌-◌, ◌<◌, true, List, [], ◌∷◌, length, map, take, slice_get, Option, Some, option_map, refl, same_Some, slice_get-map, Name, Stmt, Database, expr_of, is_assertion, IsLegal, name_at, decode, AreDistinct, is_hypothesis, AreBelow, typecode_of, IsTypecode, IsStatementOf, Kind, Float, Ess, Axiom, Prove, Entry, stmt_by, AreNumbered, HasTwoSymbolsIfFloat, is_typed_by, hypothesis_by, take-get, code-at, AreAllLegal}

-- ---- lists

pub map-back : {A B : Type 0} (f : A → B) (xs : List A) (k : ℕ) (y : B) → slice_get (map f xs) k ≡ Some y → (x : A) × (slice_get xs k ≡ Some x) × (y ≡ f x)
map-back f [] k y h = cc
map-back f (x ∷ xs) zero y h = (x, refl, cc)
map-back f (x ∷ xs) (suc k) y h = map-back f xs k y h

pub map-at : {A B : Type 0} (f : A → B) (xs : List A) (k : ℕ) (x : A) → slice_get xs k ≡ Some x → slice_get (map f xs) k ≡ Some (f x)
map-at f xs k x h = slice_get-map f xs k ∙ ap (option_map f) h

pub some-same : {A : Type 0} {o : Option A} {x y : A} → o ≡ Some x → o ≡ Some y → x ≡ y
some-same {x = x} {y = y} p q = let e : Some x ≡ Some y = sym p ∙ q in cc

-- the first n of legal statements are legal
pub kept-front : (all : Database) (n : ℕ) → AreAllLegal all → AreAllLegal (take n all)
kept-front all n legal zero t h = cc
kept-front all n legal (suc k) t h =
    let r = take-get n k all t h in
    let l = r.0 in
    let one : suc k - 1 ≡ k = omega arith in
    subst (λ D. IsLegal D t) (ap (λ j. take j all) one ∙ (sym (take-take k n all (omega (arith, l))) ∙ ap (λ j. take j (take n all)) (sym one))) (legal (suc k) t r.1)

-- ---- distinct names

pub name_at-injective : (names : List Name) (i j : ℕ) → AreDistinct names → i < length names → j < length names → name_at names i ≡ name_at names j → i ≡ j
name_at-injective names i j d h k e = same_Some i j (sym (code-at names (name_at names i) i d h refl) ∙ code-at names (name_at names i) j d k (sym e))

-- lists of numbers with the same names are equal
pub decode-injective : (names : List Name) (a b : List ℕ) → AreDistinct names → AreBelow (length names) a → AreBelow (length names) b → decode names a ≡ decode names b → a ≡ b
decode-injective names [] [] d p q e = refl
decode-injective names [] (y ∷ b) d p q e = cc
decode-injective names (x ∷ a) [] d p q e = cc
decode-injective names (x ∷ a) (y ∷ b) d p q e =
    let typecodes : name_at names x ≡ name_at names y = cc in
    let tails : decode names a ≡ decode names b = cc in
    ap (λ z. z ∷ a) (name_at-injective names x y d p.0 q.0 typecodes) ∙ ap (λ r. y ∷ r) (decode-injective names a b d p.1 q.1 tails)

-- ---- statements by their kinds

-- a hypothesis is the `$f` of c exactly if it is a `$f` and its second symbol is c
pub code-floats : (c p : ℕ) (kind : Kind) (codes : List ℕ) → HasTwoSymbolsIfFloat kind codes → is_typed_by c (hypothesis_by p kind codes) ≡ (is_float_kind kind && second_is c codes)
code-floats c p Float [] two = absurd (omega (arith, two))
code-floats c p Float (x ∷ []) two = absurd (omega (arith, two))
code-floats c p Float (x ∷ y ∷ codes) two = refl
code-floats c p kind codes two = refl

pub numbered-at : (n m : ℕ) (es : List Entry) (k : ℕ) (e : Entry) → AreNumbered n m es → slice_get es k ≡ Some e → AreBelow n e.symbols × HasTwoSymbolsIfFloat e.kind e.symbols
numbered-at n m [] k e a h = cc
numbered-at n m (x ∷ es) zero e a h = let same : x ≡ e = cc in subst (λ v. AreBelow n v.symbols × HasTwoSymbolsIfFloat v.kind v.symbols) same (a.0, a.3)
numbered-at n m (x ∷ es) (suc k) e a h = numbered-at n m es k e a.2 h

pub own-expr : (names : List Name) (kind : Kind) (label : Name) (codes : List ℕ) → is_assertion (stmt_by kind label (decode names codes)) ≡ true → expr_of (stmt_by kind label (decode names codes)) ≡ decode names codes
own-expr names Axiom label codes h = refl
own-expr names Prove label codes h = refl
own-expr names kind label codes h = cc

-- a hypothesis is described by its typecode and its number
pub required-kind : (names : List Name) (kind : Kind) (label : Name) (codes : List ℕ) (p : ℕ) (S : Database) (s : Stmt) → AreBelow (length names) codes → HasTwoSymbolsIfFloat kind codes
    → is_hypothesis S s (stmt_by kind label (decode names codes)) ≡ true
    → IsTypecode names (typecode_of codes) (expr_of (stmt_by kind label (decode names codes))) × IsStatementOf names p (stmt_by kind label (decode names codes)) (hypothesis_by p kind codes)
required-kind names Float label [] p S s b two h = absurd (omega (arith, two))
required-kind names Float label (x ∷ []) p S s b two h = absurd (omega (arith, two))
required-kind names Float label (x ∷ y ∷ codes) p S s b two h = ((b.0, refl), (b.1.0, refl))
required-kind names Ess label [] p S s b two h = (refl, refl)
required-kind names Ess label (x ∷ codes) p S s b two h = ((b.0, refl), refl)
required-kind names kind label codes p S s b two h = cc
