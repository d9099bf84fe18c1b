-- Names of lists of numbers, and the `$f` of a number.
use Rattle.frame.proofs.Words.{sym, ◌∙◌, ap, arith, inl, inr, ◌≡◌, ℕ, ◌<◌, Bool, true, false, ◌&&◌, ◌||◌, List, [], ◌∷◌, length, refl, bytes_eq-Decides, or_left, or_right, and_parts, Name, name_eq, has_name, name_at, decode, AreDistinct, AreBelow, Kind, Float, Entry, stmt_by, is_float_with, second_is, is_float_kind, HasTwoSymbolsIfFloat, In}
use Rattle.mm_read.specs.declared.stmt.Stmt.TheVariants as stmt
use Rattle.frame.proofs.FoundByNumber.{name_at-injective}

-- ---- names

-- x is the name of one of the numbers
pub record Coded (names : List Name) (codes : List ℕ) (x : Name) : Type 0 where
  pub code : ℕ
  pub among : In code codes
  pub name : name_at names code ≡ x

-- a name of a decoded list is that of one of its numbers
pub coded : (names : List Name) (codes : List ℕ) (x : Name) → has_name x (decode names codes) ≡ true → Coded names codes x
coded names [] x h = cc
coded names (c ∷ codes) x h = by (name_eq x (name_at names c)) refl (coded names codes x) h
  where
    by : (b : Bool) → name_eq x (name_at names c) ≡ b → (has_name x (decode names codes) ≡ true → Coded names codes x) → (b || has_name x (decode names codes)) ≡ true → Coded names (c ∷ codes) x
    by true e more k = record { code = c; among = inl refl; name = sym ((bytes_eq-Decides x (name_at names c)).0 e) }
    by false e more k = let r = more k in record { code = r.code; among = inr r.among; name = r.name }

pub has-code : (names : List Name) (codes : List ℕ) (c : ℕ) → In c codes → has_name (name_at names c) (decode names codes) ≡ true
has-code names [] c i = absurd i
has-code names (d ∷ codes) c (inl e) = or_left (name_eq (name_at names c) (name_at names d)) (has_name (name_at names c) (decode names codes)) ((bytes_eq-Decides (name_at names c) (name_at names d)).1 (ap (name_at names) e))
has-code names (d ∷ codes) c (inr i) = or_right (name_eq (name_at names c) (name_at names d)) (has_name (name_at names c) (decode names codes)) (has-code names codes c i)

pub code-low : (n c : ℕ) (codes : List ℕ) → AreBelow n codes → In c codes → c < n
code-low n c [] b i = absurd i
code-low n c (d ∷ codes) b (inl e) = let l = b.0 in omega (arith, l, e)
code-low n c (d ∷ codes) b (inr i) = code-low n c codes b.1 i

-- an entry that is a `$f` of the number c is a `$f` of the name of c
pub floats-is : (names : List Name) (c : ℕ) (x : Entry) (label : Name) → is_float_with c x ≡ true → (l : Name) × (stmt_by x.kind label (decode names x.symbols) ≡ stmt.Float label l (name_at names c))
floats-is names c x label h =
    let r = and_parts (is_float_kind x.kind) (second_is c x.symbols) h in
    let k = by x.kind r.0 in
    let w = second x.symbols r.1 in
    (name_at (decode names x.symbols) 0, ap (λ q. stmt_by q label (decode names x.symbols)) k ∙ ap (stmt.Float label (name_at (decode names x.symbols) 0)) w)
  where
    by : (k : Kind) → is_float_kind k ≡ true → k ≡ Float
    by Float e = refl
    by kind e = cc

    second : (codes : List ℕ) → second_is c codes ≡ true → name_at (decode names codes) 1 ≡ name_at names c
    second (y ∷ z ∷ codes) e = let same : c ≡ z = grind (arith, e) in ap (name_at names) (sym same)
    second codes e = cc

pub is-floats : (names : List Name) (c : ℕ) (x : Entry) (label l m : Name) → AreDistinct names → AreBelow (length names) x.symbols → HasTwoSymbolsIfFloat x.kind x.symbols → c < length names
    → stmt_by x.kind label (decode names x.symbols) ≡ stmt.Float m l (name_at names c) → is_float_with c x ≡ true
is-floats names c x label l m distinct low two small h = by x.kind x.symbols low two h
  where
    by : (k : Kind) (codes : List ℕ) → AreBelow (length names) codes → HasTwoSymbolsIfFloat k codes → stmt_by k label (decode names codes) ≡ stmt.Float m l (name_at names c) → (is_float_kind k && second_is c codes) ≡ true
    by Float (y ∷ z ∷ codes) b t e =
        let q : name_at names z ≡ name_at names c = cc in
        let same : z ≡ c = name_at-injective names z c distinct b.1.0 small q in
        grind (arith, same)
    by Float codes b t e = absurd (omega (arith, t))
    by kind codes b t e = cc
