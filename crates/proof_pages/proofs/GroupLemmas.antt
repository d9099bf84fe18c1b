-- The groups of a page, one after another.
use Rattle.std.specs.Prelude.{◌≡◌, ℕ, zero, suc, ◌+◌, ◌==◌, ◌<◌, nat_lt, Bool, false, ◌||◌, if◌then◌else◌, List, [], ◌∷◌, ◌++◌, length, get_or, Option, Some, None, slice_get}
use Rattle.std.proofs.Common.{ap, sym, ◌∙◌, arith, append_assoc}
use Rattle.proof_pages.specs.Sections.{group_html}
use Rattle.proof_pages.specs.Pages.{View, is_covered_by, is_covered_by_first, shown_groups}

pub not_zero : (n : ℕ) → 0 < n → (n == 0) ≡ false
not_zero n some = grind (arith, some)

got : (groups : List (List ℕ)) (i : ℕ) (g : List ℕ) → slice_get groups i ≡ Some g → get_or groups i [] ≡ g
got [] i g e = absurd (let bad = e in cc)
got (x ∷ groups) zero g e = let same = e in cc
got (x ∷ groups) (suc i) g e = got groups i g e

-- one more group that may cover the one at an index
pub covered_next : (groups : List (List ℕ)) (index i : ℕ) (group other : List ℕ) (old new : Bool) → old ≡ is_covered_by_first groups index i → slice_get groups index ≡ Some group → slice_get groups i ≡ Some other
    → new ≡ (old || is_covered_by group other (nat_lt i index)) → new ≡ is_covered_by_first groups index (i + 1)
covered_next groups index i group other old new inv here there step =
    let next : i + 1 ≡ suc i = omega arith in
    step ∙ (ap (λ b. b || is_covered_by group other (nat_lt i index)) inv
    ∙ (ap (λ g. is_covered_by_first groups index i || is_covered_by g other (nat_lt i index)) (sym (got groups index group here))
    ∙ (ap (λ g. is_covered_by_first groups index i || is_covered_by (get_or groups index []) g (nat_lt i index)) (sym (got groups i other there))
    ∙ ap (is_covered_by_first groups index) (sym next))))

-- one more group that is shown, or not
pub groups_next : (v : View) (groups : List (List ℕ)) (i : ℕ) (group old mid new : List ℕ) (covered : Bool) → mid ≡ old ++ shown_groups v groups i → slice_get groups i ≡ Some group
    → covered ≡ is_covered_by_first groups i (length groups) → new ≡ mid ++ (if covered then [] else group_html v.names v.by_symbol group) → new ≡ old ++ shown_groups v groups (i + 1)
groups_next v groups i group old mid new covered inv there is added =
    let next : i + 1 ≡ suc i = omega arith in
    added ∙ (ap (λ m. m ++ (if covered then [] else group_html v.names v.by_symbol group)) inv
    ∙ (append_assoc old (shown_groups v groups i) (if covered then [] else group_html v.names v.by_symbol group)
    ∙ (ap (λ g. old ++ (shown_groups v groups i ++ (if covered then [] else group_html v.names v.by_symbol g))) (sym (got groups i group there))
    ∙ (ap (λ b. old ++ (shown_groups v groups i ++ (if b then [] else group_html v.names v.by_symbol (get_or groups i [])))) is
    ∙ ap (λ n. old ++ shown_groups v groups n) (sym next)))))
