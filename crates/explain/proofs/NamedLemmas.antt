-- Images by number and by name.
use Rattle.explain.proofs.Words.{◌≡◌, ℕ, zero, suc, ◌<◌, Bool, true, false, cond, List, [], ◌∷◌, ◌++◌, length, drop, get_or, map, refl, sym, ◌∙◌, ap, subst, arith, Some, slice_get, nat_eq, list_all, ◌&&◌, ◌||◌, Name, name_eq, Stmt, Database, stmt_at, name_at, decode, AreDistinct, Hypothesis, Float, Essential, AllBelow, AreBelow, AreNumberedHypotheses, IsStatementOf, CodeImages, Images, code_image, code_apply, image, apply, are_disjoint, are_groups_disjoint, is_group_disjoint, same-number, below-append, image_at, images_read, decode-append}
use Rattle.mm_read.specs.declared.stmt.Stmt.TheVariants as stmt
use Rattle.std.proofs.lemmas.List.Folds.{list_all-map}
use Rattle.subst.specs.DisjointImages.{are_numbers_disjoint, are_two_disjoint, image_named}
use Rattle.verify.specs.HypothesisResults.{AreDifferent, AreGiven, code_image_at, code_images_read}

decode-drop : (names : List Name) (e : List ℕ) → decode names (drop 1 e) ≡ drop 1 (decode names e)
decode-drop names [] = refl
decode-drop names (x ∷ e) = refl

-- images by number as images of names
abbrev named_images : List Name → CodeImages → Images
named_images names σ = map (λ p. (name_at names p.0, decode names p.1)) σ

-- the number of each variable is that of a name, below n
abbrev AreVariablesBelow : ℕ → CodeImages → Type 0
AreVariablesBelow n [] = Unit {0}
AreVariablesBelow n (p ∷ σ) = (p.0 < n) × AreVariablesBelow n σ

named-append : (names : List Name) (σ τ : CodeImages) → named_images names (σ ++ τ) ≡ named_images names σ ++ named_images names τ
named-append names [] τ = refl
named-append names (p ∷ σ) τ = ap (λ r. (name_at names p.0, decode names p.1) ∷ r) (named-append names σ τ)

-- the image of a number, decoded, is the image of its name
image_same : (names : List Name) (distinct : AreDistinct names) (σ : CodeImages) (x : ℕ) → AreVariablesBelow (length names) σ → x < length names → decode names (code_image σ x) ≡ image (named_images names σ) (name_at names x)
image_same names distinct [] x h l = refl
image_same names distinct (p ∷ σ) x h l = by (nat_eq x p.0) refl (image_same names distinct σ x h.1 l)
  where
    same : nat_eq x p.0 ≡ name_eq (name_at names x) (name_at names p.0)
    same = same-number names x p.0 distinct l h.0

    by : (b : Bool) → nat_eq x p.0 ≡ b → decode names (code_image σ x) ≡ image (named_images names σ) (name_at names x)
        → decode names (cond (nat_eq x p.0) p.1 (code_image σ x)) ≡ cond (name_eq (name_at names x) (name_at names p.0)) (decode names p.1) (image (named_images names σ) (name_at names x))
    by true e rest = ap (λ b. decode names (cond b p.1 (code_image σ x))) e ∙ sym (ap (λ b. cond b (decode names p.1) (image (named_images names σ) (name_at names x))) (sym same ∙ e))
    by false e rest = ap (λ b. decode names (cond b p.1 (code_image σ x))) e ∙ (rest ∙ sym (ap (λ b. cond b (decode names p.1) (image (named_images names σ) (name_at names x))) (sym same ∙ e)))

-- ---- the images that are read

-- the image that a hypothesis gives from its result is the same by number and by name
image_is : (S : Database) (names : List Name) (p : ℕ) (s : Stmt) (h : Hypothesis) (e : List ℕ) → stmt_at S p ≡ Some s → IsStatementOf names p s h
    → (named_images names (code_image_at h e) ≡ image_at (stmt_at S p) (decode names e)) × AreVariablesBelow (length names) (code_image_at h e)
image_is S names p (stmt.Float l c v) (Float x) e stands is =
    (ap (λ y. (y, decode names (drop 1 e)) ∷ []) is.1 ∙ (ap (λ d. (v, d) ∷ []) (decode-drop names e) ∙ ap (λ o. image_at o (decode names e)) (sym stands)), (is.0, tt))
image_is S names p (stmt.Ess l e') (Essential q) e stands is = (ap (λ o. image_at o (decode names e)) (sym stands), tt)
image_is S names p s h e stands is = absurd is

variables-append : (n : ℕ) (σ τ : CodeImages) → AreVariablesBelow n σ → AreVariablesBelow n τ → AreVariablesBelow n (σ ++ τ)
variables-append n [] τ h k = k
variables-append n (p ∷ σ) τ h k = (h.0, variables-append n σ τ h.1 k)

-- the images that all hypotheses give from their results are the same by number and by name
images_are : (S : Database) (names : List Name) (ps typecodes : List ℕ) (hs : List Hypothesis) (es : List (List ℕ)) → AreNumberedHypotheses S names ps typecodes hs
    → (named_images names (code_images_read hs es) ≡ images_read S ps (map (decode names) es)) × AreVariablesBelow (length names) (code_images_read hs es)
images_are S names [] [] [] es required = (refl, tt)
images_are S names (p ∷ ps) (x ∷ typecodes) (h ∷ hs) [] required = (refl, tt)
images_are S names (p ∷ ps) (x ∷ typecodes) (h ∷ hs) (e ∷ es) required =
    let one = image_is S names p required.0.stmt h e required.0.stands required.0.is in
    let rest = images_are S names ps typecodes hs es required.1 in (
      named-append names (code_image_at h e) (code_images_read hs es)
          ∙ (ap (λ σ. σ ++ named_images names (code_images_read hs es)) one.0 ∙ ap (λ τ. image_at (stmt_at S p) (decode names e) ++ τ) rest.0),
      variables-append (length names) (code_image_at h e) (code_images_read hs es) one.1 rest.1,
    )
images_are S names ps typecodes hs es required = absurd required

-- the image of each number, decoded, is the image of its name
pub record AreSame (names : List Name) (σ : CodeImages) (τ : Images) : Type 0 where
  pub each : (n : ℕ) → n < length names → decode names (code_image σ n) ≡ image τ (name_at names n)

pub given_same : (S : Database) (names : List Name) (distinct : AreDistinct names) (ps typecodes : List ℕ) (hs : List Hypothesis) (rs : List (List ℕ)) (σ : CodeImages)
    → AreNumberedHypotheses S names ps typecodes hs → AreGiven hs rs σ → AreSame names σ (images_read S ps (map (decode names) rs))
given_same S names distinct ps typecodes hs rs σ numbered given = record {
  each = λ n low. (let are = images_are S names ps typecodes hs rs numbered in
      ap (decode names) (given.each n) ∙ (image_same names distinct (code_images_read hs rs) n are.1 low ∙ ap (λ τ. image τ (name_at names n)) are.0));
}

-- decoding after substitution by number is substitution by name after decoding
pub apply_same : (names : List Name) (σ : CodeImages) (τ : Images) (e : List ℕ) → AreSame names σ τ → AreBelow (length names) e → decode names (code_apply σ e) ≡ apply τ (decode names e)
apply_same names σ τ [] same l = refl
apply_same names σ τ (x ∷ e) same l =
    decode-append names (code_image σ x) (code_apply σ e)
    ∙ (ap (λ r. r ++ decode names (code_apply σ e)) (same.each x l.0) ∙ ap (λ r. image τ (name_at names x) ++ r) (apply_same names σ τ e same l.1))

-- ---- numbers of the images

drop-below : (n : ℕ) (e : List ℕ) → AreBelow n e → AreBelow n (drop 1 e)
drop-below n [] h = tt
drop-below n (x ∷ e) h = h.1

read-below : (n x : ℕ) (hs : List Hypothesis) (rs : List (List ℕ)) → x < n → AllBelow n rs → AreBelow n (code_image (code_images_read hs rs) x)
read-below n x [] rs l h = (l, tt)
read-below n x (y ∷ hs) [] l h = (l, tt)
read-below n x (Essential q ∷ hs) (r ∷ rs) l h = read-below n x hs rs l h.1
read-below n x (Float y ∷ hs) (r ∷ rs) l h = by (nat_eq x y) (read-below n x hs rs l h.1)
  where
    by : (b : Bool) → AreBelow n (code_image (code_images_read hs rs) x) → AreBelow n (cond b (drop 1 r) (code_image (code_images_read hs rs) x))
    by true rest = drop-below n r h.0
    by false rest = rest

pub given-below : (n x : ℕ) (hs : List Hypothesis) (rs : List (List ℕ)) (σ : CodeImages) → AreGiven hs rs σ → AllBelow n rs → x < n → AreBelow n (code_image σ x)
given-below n x hs rs σ given low l = subst (AreBelow n) (sym (given.each x)) (read-below n x hs rs l low)

pub apply-below : (n : ℕ) (σ : CodeImages) (e : List ℕ) → ((x : ℕ) → x < n → AreBelow n (code_image σ x)) → AreBelow n e → AreBelow n (code_apply σ e)
apply-below n σ [] over k = tt
apply-below n σ (x ∷ e) over k = below-append n (code_image σ x) (code_apply σ e) (over x k.0) (apply-below n σ e over k.1)

-- ---- the image of one number

other-number : (a b : ℕ) → (a ≡ b → ⊥) → nat_eq a b ≡ false
other-number a b ne = by (nat_eq a b) refl
  where
    by : (t : Bool) → nat_eq a b ≡ t → t ≡ false
    by true e = absurd (ne (grind (arith, e)))
    by false e = refl

own-number : (a : ℕ) → nat_eq a a ≡ true
own-number a = grind arith

-- a number that is no variable of a `$f` is its own image
pub read-own : (x : ℕ) (hs : List Hypothesis) (rs : List (List ℕ)) → ((k : ℕ) → slice_get hs k ≡ Some (Float x) → ⊥) → code_image (code_images_read hs rs) x ≡ x ∷ []
read-own x [] rs none = refl
read-own x (h ∷ hs) [] none = refl
read-own x (Essential q ∷ hs) (r ∷ rs) none = read-own x hs rs (λ k e. none (suc k) e)
read-own x (Float y ∷ hs) (r ∷ rs) none =
    ap (λ b. cond b (drop 1 r) (code_image (code_images_read hs rs) x)) (other-number x y (λ e. none zero (ap (λ z. Some (Float z)) (sym e)))) ∙ read-own x hs rs (λ k e. none (suc k) e)

-- the image of the variable of a `$f` is its result without the typecode
pub read-float : (x k : ℕ) (hs : List Hypothesis) (rs : List (List ℕ)) → AreDifferent hs → slice_get hs k ≡ Some (Float x) → length rs ≡ length hs → code_image (code_images_read hs rs) x ≡ drop 1 (get_or rs k [])
read-float x k [] rs different at count = absurd (cc)
read-float x k (h ∷ hs) [] different at count = absurd (omega (arith, count))
read-float x zero (Essential q ∷ hs) (r ∷ rs) different at count = absurd (cc)
read-float x (suc k) (Essential q ∷ hs) (r ∷ rs) different at count = read-float x k hs rs (record { each = λ i j y p q. (let e = different.each (suc i) (suc j) y p q in omega (arith, e)) }) at (omega (arith, count))
read-float x zero (Float y ∷ hs) (r ∷ rs) different at count =
    let same : y ≡ x = cc in ap (λ b. cond b (drop 1 r) (code_image (code_images_read hs rs) x)) (ap (nat_eq x) same ∙ own-number x)
read-float x (suc k) (Float y ∷ hs) (r ∷ rs) different at count =
    ap (λ b. cond b (drop 1 r) (code_image (code_images_read hs rs) x)) (other-number x y (λ e. (let two = different.each zero (suc k) x (ap (λ z. Some (Float z)) (sym e)) at in absurd (omega (arith, two)))))
    ∙ read-float x k hs rs (record { each = λ i j y p q. (let e = different.each (suc i) (suc j) y p q in omega (arith, e)) }) at (omega (arith, count))

-- ---- the disjoint variable condition

all-below : (n : ℕ) (p q : ℕ → Bool) (xs : List ℕ) → AreBelow n xs → ((k : ℕ) → k < n → p k ≡ q k) → list_all p xs ≡ list_all q xs
all-below n p q [] b h = refl
all-below n p q (x ∷ xs) b h = ap (λ r. r && list_all p xs) (h x b.0) ∙ ap (λ r. q x && r) (all-below n p q xs b.1 h)

module _ (names : List Name) (distinct : AreDistinct names) (D : Database) (σ : CodeImages) (τ : Images) (same : AreSame names σ τ) where
  two-named : (k l : ℕ) → k < length names → l < length names
      → are_two_disjoint D (image_named names σ) k l ≡ (name_eq (name_at names k) (name_at names l) || are_disjoint D (image τ (name_at names k)) (image τ (name_at names l)))
  two-named k l hk hl =
      ap (λ b. b || are_disjoint D (image_named names σ k) (image_named names σ l)) (same-number names k l distinct hk hl)
      ∙ (ap (λ e. name_eq (name_at names k) (name_at names l) || are_disjoint D e (image_named names σ l)) (same.each k hk)
      ∙ ap (λ e. name_eq (name_at names k) (name_at names l) || are_disjoint D (image τ (name_at names k)) e) (same.each l hl))

  group-named : (g : List ℕ) → AreBelow (length names) g → are_numbers_disjoint D (image_named names σ) g ≡ is_group_disjoint D τ (decode names g)
  group-named g b = simp list_all-map (
      all-below (length names) (λ k. list_all (are_two_disjoint D (image_named names σ) k) g) (λ k. list_all (λ l. name_eq (name_at names k) (name_at names l) || are_disjoint D (image τ (name_at names k)) (image τ (name_at names l))) g) g b
      (λ k hk. all-below (length names) (are_two_disjoint D (image_named names σ) k) (λ l. name_eq (name_at names k) (name_at names l) || are_disjoint D (image τ (name_at names k)) (image τ (name_at names l))) g b (λ l hl. two-named k l hk hl))
      )

  -- groups are disjoint by number exactly if they are by name
  pub groups_same : (gs : List (List ℕ)) → AllBelow (length names) gs → list_all (are_numbers_disjoint D (image_named names σ)) gs ≡ are_groups_disjoint D τ (map (decode names) gs)
  groups_same [] b = refl
  groups_same (g ∷ gs) b =
      ap (λ r. r && list_all (are_numbers_disjoint D (image_named names σ)) gs) (group-named g b.0)
      ∙ ap (λ r. is_group_disjoint D τ (decode names g) && r) (groups_same gs b.1)
