-- Images are read from results, one hypothesis after another, and each `$e` is compared with its
-- result.
use Rattle.verify.proofs.Words.{◌≡◌, ℕ, zero, suc, ◌+◌, ◌-◌, ◌<◌, ◌≤◌, nat_eq, nat_lt, Bool, true, false, cond, List, [], ◌∷◌, length, map, take, drop, get_or, slice_get, Some, None, refl, ◌↔◌, IsTrue, sym, ◌∙◌, ap, subst, arith, true≢false, nat_tests, slice_get_within, slice_get-get_or, same_Some, drop_more, drop-take, drop-drop, typecode_of, code_image, applied, Images, Expr, CodeImages, code_apply, images_of_names, SymbolRange, symbols_in, images_at, AreWithin, image-some, image-none, within-get, length-seen, Hypothesis, Float, Essential, AreDifferent, HasSeenEssentials, HasSeenEssentialsBefore, IsTyped, Reads, IsPresent, ArePresent, HypothesesMatch, HypothesisMatches, tail_of, BeginsWith, IsMistyped, ReadTo, ReadsAll, some-same, decode-injective, Name, Stmt, Database, stmt_at, expr_of, decode, AreDistinct, AreBelow, AllBelow, expr_at, option_expr, AreOver, substitution_over_names, lookup}
use Rattle.verify.proofs.CitingLemmas.{get-decode, get-map-of}
use Rattle.verify.proofs.Named.{all-at}
use Rattle.verify.proofs.ImageLemmas.{apply-below, are-codes}

module _ (symbols typecodes : List ℕ) (hs : List Hypothesis) (places : List SymbolRange) (i : ℕ) where
  module _ (different : AreDifferent hs) (p : SymbolRange) (at_place : slice_get places i ≡ Some p) (x : ℕ) (kind : slice_get hs i ≡ Some (Float x)) (old new : List (ℕ × SymbolRange)) (r : ReadTo i symbols typecodes hs places old)
      (low : BeginsWith symbols (get_or typecodes i 0) p) (set : (y : ℕ) → lookup (nat_eq y) new ≡ cond (nat_eq y x) (Some (tail_of p)) (lookup (nat_eq y) old)) where
    -- a number that the test finds equal to x is x
    same_number : (y : ℕ) → nat_eq y x ≡ true → y ≡ x
    same_number y e = grind (arith, nat_tests, e)

    float-each : (k y : ℕ) (q : SymbolRange) → k < i + 1 → slice_get hs k ≡ Some (Float y) → slice_get places k ≡ Some q → BeginsWith symbols (get_or typecodes k 0) q × (lookup (nat_eq y) new ≡ Some (tail_of q))
    float-each k y q h kind' at = let b = by (nat_eq y x) refl in (b.0, set y ∙ b.1)
      where
        by : (b : Bool) → nat_eq y x ≡ b → BeginsWith symbols (get_or typecodes k 0) q × (cond b (Some (tail_of p)) (lookup (nat_eq y) old) ≡ Some (tail_of q))
        by true e =
            let one : k ≡ i = different.each k i x (kind' ∙ ap (λ n. Some (Float n)) (same_number y e)) kind in
            let same : p ≡ q = some-same at_place (ap (slice_get places) (sym one) ∙ at) in
            (subst (λ v. BeginsWith symbols (get_or typecodes k 0) v) same (subst (λ n. BeginsWith symbols (get_or typecodes n 0) p) (sym one) low), ap (λ v. Some (tail_of v)) same)
        by false e =
            let other : k ≡ i → ⊥ = λ one. (let v : Some (Float y) ≡ Some (Float x) = sym kind' ∙ (ap (slice_get hs) one ∙ kind) in let same : y ≡ x = cc in let t : nat_eq y x ≡ true = grind (arith, nat_tests, same) in true≢false (sym t ∙ e)) in
            r.each k y q (omega (arith, h, other)) kind' at

    float-own : (y : ℕ) → ((k : ℕ) → k < i + 1 → slice_get hs k ≡ Some (Float y) → ⊥) → lookup (nat_eq y) new ≡ None
    float-own y none = set y ∙ by (nat_eq y x) refl
      where
        by : (b : Bool) → nat_eq y x ≡ b → cond b (Some (tail_of p)) (lookup (nat_eq y) old) ≡ None
        by true e = absurd (none i (omega arith) (kind ∙ ap (λ n. Some (Float n)) (sym (same_number y e))))
        by false e = r.own y (λ k h. none k (omega (arith, h)))

    pub float-next : ReadTo (i + 1) symbols typecodes hs places new
    float-next = record { each = float-each; own = float-own }

  -- if the next hypothesis is no `$f`, or there is none, it adds no image
  pub other-next : ((x : ℕ) → slice_get hs i ≡ Some (Float x) → ⊥) → (images : List (ℕ × SymbolRange)) → ReadTo i symbols typecodes hs places images → ReadTo (i + 1) symbols typecodes hs places images
  other-next none images r = record {
    each = λ k x p h kind at. r.each k x p (let other : k ≡ i → ⊥ = λ one. none x (ap (slice_get hs) (sym one) ∙ kind) in omega (arith, h, other)) kind at;
    own = λ x free. r.own x (λ k h. free k (omega (arith, h)));
  }

  pub read-whole : (images : List (ℕ × SymbolRange)) → length hs ≤ i → ReadTo i symbols typecodes hs places images → ReadTo (length hs) symbols typecodes hs places images
  read-whole images past r = record {
    each = λ k x p h. r.each k x p (omega (arith, h, past));
    own = λ x free. r.own x (λ k h at. free k (slice_get_within hs k (Float x) at) at);
  }

-- ---- a result and its hypothesis

pub place-at : (hs : List Hypothesis) (places : List SymbolRange) (k : ℕ) (h : Hypothesis) (d : SymbolRange) → length places ≡ length hs → slice_get hs k ≡ Some h → slice_get places k ≡ Some (get_or places k d)
place-at hs places k h d same at = let less = slice_get_within hs k h at in slice_get-get_or places k d (omega (arith, less, same))

pub place-within : (n : ℕ) (hs : List Hypothesis) (places : List SymbolRange) (k : ℕ) (h : Hypothesis) (d : SymbolRange) → length places ≡ length hs → slice_get hs k ≡ Some h → AreWithin n places → (get_or places k d).end ≤ n
place-within n hs places k h d same at within = (within-get n k places (get_or places k d) within (place-at hs places k h d same at)).1

pub mistyped : (symbols typecodes : List ℕ) (hs : List Hypothesis) (places : List SymbolRange) (k x : ℕ) (d : SymbolRange) (ok : Bool) → length places ≡ length hs → slice_get hs k ≡ Some (Float x)
    → IsTrue ok ↔ BeginsWith symbols (get_or typecodes k 0) (get_or places k d) → ok ≡ false → IsMistyped symbols typecodes hs places
mistyped symbols typecodes hs places k x d ok same at begins fails = (k, x, get_or places k d, at, place-at hs places k (Float x) d same at, λ b. true≢false (sym (begins.1 b) ∙ fails))

-- the flag after one more hypothesis
pub seen-next : (hs : List Hypothesis) (i : ℕ) (seen more : Bool) → HasSeenEssentialsBefore i hs seen → (IsTrue seen → IsTrue more) → ((p : ℕ) → slice_get hs i ≡ Some (Essential p) → IsTrue more) → HasSeenEssentialsBefore (i + 1) hs more
seen-next hs i seen more before stays here k p less at = split (nat_lt k i) refl
  where
    split : (b : Bool) → nat_lt k i ≡ b → IsTrue more
    split true e = stays (before k p (grind (arith, e)) at)
    split false e = let same : k ≡ i = grind (arith, e, less) in here p (ap (slice_get hs) (sym same) ∙ at)

-- where there are no `$e`, each result for a `$e` matches
pub none-match : (S : Database) (σ : Images) (hs : List Hypothesis) (rs : List Expr) → HasSeenEssentials hs false → HypothesesMatch S σ hs rs
none-match S σ hs rs none = record { each = one }
  where
    one : (k : ℕ) (h : Hypothesis) → slice_get hs k ≡ Some h → HypothesisMatches S σ h (get_or rs k [])
    one k (Float x) at = tt
    one k (Essential p) at = absurd (true≢false (sym (none k p (slice_get_within hs k (Essential p) at) at)))

-- ---- places as lists of symbols

-- the range without its first symbol has the symbols without the first one
tail-range : (xs : List ℕ) (p : SymbolRange) → p.start < p.end → symbols_in xs (tail_of p) ≡ drop 1 (symbols_in xs p)
tail-range xs p low =
    let m = p.end - (p.start + 1) in
    let e : p.end - p.start ≡ 1 + m = omega (arith, low) in
    sym (ap (λ n. drop 1 (take n (drop p.start xs))) e ∙ (drop-take 1 m (drop p.start xs) ∙ ap (take m) (drop-drop 1 p.start xs)))

typecode-drop : (xs : List ℕ) (a n : ℕ) → a < length xs → 0 < n → typecode_of (take n (drop a xs)) ≡ get_or xs a 0
typecode-drop xs a zero h m = absurd (omega (arith, m))
typecode-drop xs a (suc n) h m = ap (λ l. typecode_of (take (suc n) l)) (drop_more xs a 0 h)

-- if the symbols at a place begin with a typecode, so does their list
begun-typed : (symbols : List ℕ) (typecode : ℕ) (p : SymbolRange) → p.end ≤ length symbols → BeginsWith symbols typecode p → IsTyped typecode (symbols_in symbols p)
begun-typed symbols typecode p high b =
    let low = b.0 in
    let len = length-seen symbols p (omega (arith, low)) high in
    record { some = omega (arith, low, len); first = typecode-drop symbols p.start (p.end - p.start) (omega (arith, low, high)) (omega (arith, low)) ∙ b.1 }

typed-begun : (symbols : List ℕ) (typecode : ℕ) (p : SymbolRange) → p.start ≤ p.end → p.end ≤ length symbols → IsTyped typecode (symbols_in symbols p) → BeginsWith symbols typecode p
typed-begun symbols typecode p low high t =
    let len = length-seen symbols p low high in
    let some = t.some in
    (omega (arith, some, len), sym (typecode-drop symbols p.start (p.end - p.start) (omega (arith, some, len, high)) (omega (arith, some, len))) ∙ t.first)

pub reads-seen : (ok : Bool) (symbols typecodes : List ℕ) (hs : List Hypothesis) (places : List SymbolRange) (images : List (ℕ × SymbolRange)) → length places ≡ length hs → AreWithin (length symbols) places
    → ReadsAll ok (length hs) symbols typecodes hs places images → Reads ok typecodes hs (map (symbols_in symbols) places) (images_at symbols images)
reads-seen true symbols typecodes hs places images count within r = record { typed = typed; image = image; own = λ x none. image-none symbols images x (r.own x (λ k less. none k)) }
  where
    there : (k x : ℕ) → slice_get hs k ≡ Some (Float x) → (p : SymbolRange) × (slice_get places k ≡ Some p)
    there k x kind = let none : SymbolRange = record { start = 0; end = 0 } in (get_or places k none, place-at hs places k (Float x) none count kind)

    typed : (k x : ℕ) → slice_get hs k ≡ Some (Float x) → IsTyped (get_or typecodes k 0) (get_or (map (symbols_in symbols) places) k [])
    typed k x kind =
        let p = there k x kind in
        let begun = (r.each k x p.0 (slice_get_within hs k (Float x) kind) kind p.1).0 in
        let w = within-get (length symbols) k places p.0 within p.1 in
        subst (IsTyped (get_or typecodes k 0)) (sym (get-map-of (symbols_in symbols) places k p.0 [] p.1)) (begun-typed symbols (get_or typecodes k 0) p.0 w.1 begun)

    image : (k x : ℕ) → slice_get hs k ≡ Some (Float x) → code_image (images_at symbols images) x ≡ drop 1 (get_or (map (symbols_in symbols) places) k [])
    image k x kind =
        let p = there k x kind in
        let e = r.each k x p.0 (slice_get_within hs k (Float x) kind) kind p.1 in
        image-some symbols images x (tail_of p.0) e.1
        ∙ (tail-range symbols p.0 e.0.0 ∙ ap (drop 1) (sym (get-map-of (symbols_in symbols) places k p.0 [] p.1)))
reads-seen false symbols typecodes hs places images count within r =
    let w = within-get (length symbols) r.0 places r.2 within r.4 in
    (r.0, r.1, r.3, λ typed. r.5 (typed-begun symbols (get_or typecodes r.0 0) r.2 w.0 w.1 (subst (IsTyped (get_or typecodes r.0 0)) (get-map-of (symbols_in symbols) places r.0 r.2 [] r.4) typed)))

pub essential-iff : (S : Database) (names : List Name) (ρ : CodeImages) (q : ℕ) (s : Stmt) (r e : List ℕ) (b : Bool) → AreDistinct names → stmt_at S q ≡ Some s → decode names e ≡ expr_of s
    → AreBelow (length names) e → AreOver names ρ → AreBelow (length names) r → IsTrue b ↔ (r ≡ code_apply ρ e) → IsTrue b ↔ (decode names r ≡ applied (images_of_names names ρ) (expr_at S q))
essential-iff S names ρ q s r e b distinct stands same below over low h =
    let whole : decode names (code_apply ρ e) ≡ applied (images_of_names names ρ) (expr_at S q)
    = substitution_over_names names ρ e distinct (are-codes names e below) ∙ ap (applied (images_of_names names ρ)) (same ∙ sym (ap option_expr stands)) in (
      λ t. ap (decode names) (h.0 t) ∙ whole,
      λ d. h.1 (decode-injective names r (code_apply ρ e) distinct low (apply-below names ρ e over below) (d ∙ sym whole)),
    )

pub present-at : (S : Database) (hs : List Hypothesis) (k : ℕ) (h : Hypothesis) → ArePresent S hs → slice_get hs k ≡ Some h → IsPresent S h
present-at S [] k h a e = absurd (cc)
present-at S (x ∷ hs) zero h a e = subst (IsPresent S) (same_Some x h e) a.0
present-at S (x ∷ hs) (suc k) h a e = present-at S hs k h a.1 e

-- the comparison of numbers for a `$e` decides whether its result matches by name
pub fits-essential : (S : Database) (names : List Name) (hs : List Hypothesis) (rs : List (List ℕ)) (ρ ρ' : CodeImages) (k q : ℕ) (r e : List ℕ) (b : Bool) → AreDistinct names → ArePresent S hs → slice_get hs k ≡ Some (Essential q)
    → ((s : Stmt) → stmt_at S q ≡ Some s → decode names e ≡ expr_of s) → AreBelow (length names) e → AreOver names ρ → AllBelow (length names) rs → ρ' ≡ ρ → r ≡ get_or rs k [] → IsTrue b ↔ (r ≡ code_apply ρ' e)
    → IsTrue b ↔ HypothesisMatches S (images_of_names names ρ) (Essential q) (get_or (map (decode names) rs) k [])
fits-essential S names hs rs ρ ρ' k q r e b distinct present at same below over low images here h =
    let s = present-at S hs k (Essential q) present at in
    subst (λ v. IsTrue b ↔ (v ≡ applied (images_of_names names ρ) (expr_at S q))) (ap (decode names) here ∙ sym (get-decode names rs k))
    (essential-iff S names ρ q s.0 r e b distinct s.1 (same s.0 s.1) below over (subst (AreBelow (length names)) (sym here) (all-at (length names) k rs low))
    (subst (λ σ. IsTrue b ↔ (r ≡ code_apply σ e)) images h))

-- an expression is held against the result in its place
pub images-iff : (b : Bool) (r e : List ℕ) (σ ρ : CodeImages) → σ ≡ ρ → IsTrue b ↔ (r ≡ code_apply σ e) → IsTrue b ↔ (r ≡ code_apply ρ e)
images-iff b r e σ ρ images h = subst (λ τ. IsTrue b ↔ (r ≡ code_apply τ e)) images h

-- a property of the first k hypotheses and of the next one holds of the first k + 1
pub one-more : (P : ℕ → Hypothesis → Type 0) (hs : List Hypothesis) (k : ℕ) (here : Hypothesis) → slice_get hs k ≡ Some here → ((j : ℕ) (h : Hypothesis) → j < k → slice_get hs j ≡ Some h → P j h) → P k here
    → (j : ℕ) (h : Hypothesis) → j < k + 1 → slice_get hs j ≡ Some h → P j h
one-more P hs k here there before holds j h less at = split (nat_lt j k) refl
  where
    split : (b : Bool) → nat_lt j k ≡ b → P j h
    split true e = before j h (grind (arith, e)) at
    split false e =
        let same : k ≡ j = grind (arith, e, less) in
        subst (λ n. P n h) same (subst (P k) (same_Some here h (sym there ∙ (ap (slice_get hs) same ∙ at))) holds)
