-- The labels of the mandatory hypotheses.
use Rattle.explain.proofs.Words.{◌≡◌, ℕ, zero, suc, ◌+◌, ◌<◌, ◌≤◌, List, [], ◌∷◌, ◌++◌, length, map, take, get_or, Some, unwrap_or, refl, sym, ◌∙◌, ap, subst, arith, map_more, length-map, Name, Stmt, Database, before, stmt_at, label_of, stands-within, hypotheses, mandatory_labels, label_or_empty, IsProvable, Nothing, IsEntry, mandatory-entries}
use Rattle.verify.specs.declared.label_table.LabelEntry.TheVariants.{Hypothesis}

get-map : (ps : List ℕ) (k d : ℕ) → k < length ps → get_or (map Hypothesis ps) k Nothing ≡ Hypothesis (get_or ps k d)
get-map [] k d h = absurd (omega (arith, h))
get-map (p ∷ ps) zero d h = refl
get-map (p ∷ ps) (suc k) d h = get-map ps k d (omega (arith, h))

-- the position of a mandatory hypothesis, and its statement
pub record Stands (S : Database) (p : ℕ) : Type 0 where
  pub stmt : Stmt
  pub stands : stmt_at S p ≡ Some stmt
  pub positive : 1 ≤ p
  pub within : p ≤ length S

pub stands-at : (S : Database) (at : ℕ) (s : Stmt) (ps : List ℕ) (k p d : ℕ) → IsProvable S at s → ps ≡ hypotheses (before S at) s → k < length ps → p ≡ get_or ps k d → Stands S p
stands-at S at s ps k p d provable are less is =
    let entries = mandatory-entries S at s ps (map Hypothesis ps) provable are refl in
    let inside : k < length (mandatory_labels S at s) = let long = length-map (hypotheses (before S at) s) (λ i. label_or_empty (stmt_at S i)) in let same = ap length are in omega (arith, long, same, less) in
    let one = subst (λ e. IsEntry S at (get_or (mandatory_labels S at s) k []) e) (get-map ps k d less ∙ ap Hypothesis (sym is)) (entries.each k inside) in
    let place = stands-within S p one.0 one.1.stands in
    record { stmt = one.0; stands = one.1.stands; positive = place.0; within = place.1 }

-- the labels of the first hypotheses, with that of the next one
pub labels-more : (S : Database) (ps : List ℕ) (k p d : ℕ) (label : Name) (front after : List Name) (h : Stands S p) → k < length ps → p ≡ get_or ps k d → Some label ≡ label_of h.stmt
    → front ≡ map (λ i. label_or_empty (stmt_at S i)) (take k ps) → after ≡ front ++ label ∷ [] → after ≡ map (λ i. label_or_empty (stmt_at S i)) (take (k + 1) ps)
labels-more S ps k p d label front after h less is labelled so_far added =
    let one : label ≡ label_or_empty (stmt_at S p) = sym (ap label_or_empty h.stands ∙ ap (λ o. unwrap_or o []) (sym labelled)) in
    added ∙ (ap (λ r. r ++ label ∷ []) so_far
    ∙ (ap (λ l. map (λ i. label_or_empty (stmt_at S i)) (take k ps) ++ l ∷ []) (one ∙ ap (λ i. label_or_empty (stmt_at S i)) is)
    ∙ sym (map_more (λ i. label_or_empty (stmt_at S i)) ps k d less)))
