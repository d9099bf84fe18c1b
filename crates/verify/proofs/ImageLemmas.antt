-- Images of names: images that agree on an expression, and images of variables only.
use Rattle.verify.proofs.Words.{◌≡◌, ℕ, zero, suc, Bool, true, false, cond, ◌||◌, ◌&&◌, List, [], ◌∷◌, ◌++◌, length, slice_get, Some, refl, list_all, sym, ◌∙◌, ap, true≢false, Name, name_eq, has_name, Expr, Database, and_from, lt-ltb, or_left, or_right, AreCodes, name_same, same_name, Images, image, applied, CodeImages, code_image, code_apply, are_disjoint, is_group_disjoint, are_groups_disjoint, AreBelow, below-append, AreOver}

all-member : (p q : Name → Bool) (xs : List Name) → ((x : Name) → has_name x xs ≡ true → p x ≡ q x) → list_all p xs ≡ list_all q xs
all-member p q [] h = refl
all-member p q (y ∷ xs) h =
    ap (λ b. b && list_all p xs) (h y (or_left (name_eq y y) (has_name y xs) (name_same y)))
    ∙ ap (λ b. q y && b) (all-member p q xs (λ x k. h x (or_right (name_eq x y) (has_name x xs) k)))

-- if the images of each symbol of an expression are the same, the substituted expressions are the
-- same
pub apply-members : (σ τ : Images) (e : Expr) → ((x : Name) → has_name x e ≡ true → image σ x ≡ image τ x) → applied σ e ≡ applied τ e
apply-members σ τ [] h = refl
apply-members σ τ (y ∷ e) h =
    ap (λ r. r ++ applied σ e) (h y (or_left (name_eq y y) (has_name y e) (name_same y)))
    ∙ ap (λ r. image τ y ++ r) (apply-members σ τ e (λ x k. h x (or_right (name_eq x y) (has_name x e) k)))

module _ (D : Database) (σ τ : Images) where
  group-members : (g : List Name) → ((x : Name) → has_name x g ≡ true → image σ x ≡ image τ x) → is_group_disjoint D σ g ≡ is_group_disjoint D τ g
  group-members g h =
      all-member (λ x. list_all (λ y. name_eq x y || are_disjoint D (image σ x) (image σ y)) g) (λ x. list_all (λ y. name_eq x y || are_disjoint D (image τ x) (image τ y)) g) g
      (λ x in_x. all-member (λ y. name_eq x y || are_disjoint D (image σ x) (image σ y)) (λ y. name_eq x y || are_disjoint D (image τ x) (image τ y)) g
      (λ y in_y. ap (λ e. name_eq x y || are_disjoint D e (image σ y)) (h x in_x) ∙ ap (λ e. name_eq x y || are_disjoint D (image τ x) e) (h y in_y)))

  pub groups-members : (gs : List (List Name)) → ((k : ℕ) (g : List Name) (x : Name) → slice_get gs k ≡ Some g → has_name x g ≡ true → image σ x ≡ image τ x)
      → are_groups_disjoint D σ gs ≡ are_groups_disjoint D τ gs
  groups-members [] h = refl
  groups-members (g ∷ gs) h =
      ap (λ b. b && are_groups_disjoint D σ gs) (group-members g (λ x k. h zero g x refl k))
      ∙ ap (λ b. is_group_disjoint D τ g && b) (groups-members gs (λ k f x at k'. h (suc k) f x at k'))

-- ---- images of variables only

abbrev pub only : (Name → Bool) → Images → Images
only V [] = []
only V (p ∷ σ) = cond (V p.0) (p ∷ only V σ) (only V σ)

pub only-all : (V : Name → Bool) (σ : Images) → list_all (λ p. V p.0) (only V σ) ≡ true
only-all V [] = refl
only-all V (p ∷ σ) = by (V p.0) refl (only-all V σ)
  where
    by : (b : Bool) → V p.0 ≡ b → list_all (λ q. V q.0) (only V σ) ≡ true → list_all (λ q. V q.0) (cond b (p ∷ only V σ) (only V σ)) ≡ true
    by true e rest = ap (λ b. b && list_all (λ q. V q.0) (only V σ)) e ∙ rest
    by false e rest = rest

pub image-only : (V : Name → Bool) (σ : Images) (y : Name) → image (only V σ) y ≡ cond (V y) (image σ y) (y ∷ [])
image-only V [] y = none (V y)
  where
    none : (b : Bool) → y ∷ [] ≡ cond b (y ∷ []) (y ∷ [])
    none true = refl
    none false = refl
image-only V (p ∷ σ) y = by (V p.0) (name_eq y p.0) refl refl (image-only V σ y)
  where
    by : (a b : Bool) → V p.0 ≡ a → name_eq y p.0 ≡ b → image (only V σ) y ≡ cond (V y) (image σ y) (y ∷ [])
        → image (cond a (p ∷ only V σ) (only V σ)) y ≡ cond (V y) (cond b p.1 (image σ y)) (y ∷ [])
    by true true e f rest =
        ap (λ t. cond t p.1 (image (only V σ) y)) f ∙ ap (λ t. cond t p.1 (y ∷ [])) (sym (ap V (same_name y p.0 f) ∙ e))
    by true false e f rest = ap (λ t. cond t p.1 (image (only V σ) y)) f ∙ rest
    by false true e f rest =
        let none = ap V (same_name y p.0 f) ∙ e in
        rest ∙ (ap (λ t. cond t (image σ y) (y ∷ [])) none ∙ ap (λ t. cond t p.1 (y ∷ [])) (sym none))
    by false false e f rest = rest

-- among images of variables, a symbol that is no variable is its own image
pub image-fixed : (V : Name → Bool) (σ : Images) (y : Name) → list_all (λ p. V p.0) σ ≡ true → V y ≡ false → image σ y ≡ y ∷ []
image-fixed V [] y all none = refl
image-fixed V (p ∷ σ) y all none = by (V p.0) (name_eq y p.0) refl refl all (λ h. image-fixed V σ y h none)
  where
    by : (a b : Bool) → V p.0 ≡ a → name_eq y p.0 ≡ b → (a && list_all (λ q. V q.0) σ) ≡ true → (list_all (λ q. V q.0) σ ≡ true → image σ y ≡ y ∷ []) → cond b p.1 (image σ y) ≡ y ∷ []
    by true true e f all rest = absurd (true≢false (sym e ∙ (ap V (sym (same_name y p.0 f)) ∙ none)))
    by true false e f all rest = rest all
    by false b e f all rest = absurd (true≢false (sym all))

-- ---- numbers with names

pub apply-below : (names : List Name) (σ : CodeImages) (e : List ℕ) → AreOver names σ → AreBelow (length names) e → AreBelow (length names) (code_apply σ e)
apply-below names σ [] o b = tt
apply-below names σ (x ∷ e) o b = below-append (length names) (code_image σ x) (code_apply σ e) (o x b.0) (apply-below names σ e o b.1)

pub are-codes : (names : List Name) (e : List ℕ) → AreBelow (length names) e → AreCodes names e
are-codes names [] b = refl
are-codes names (x ∷ e) b = and_from _ _ (lt-ltb x (length names) b.0) (are-codes names e b.1)
