use Rattle.frame.specs.ListsOfPairs.{is_numbered_pair}
use Rattle.frame.specs.MandatoryPairs.{has_number}
use Rattle.subst.proofs.Words.{List, ℕ, true≢false, length, list_all, refl, sym, ◌∙◌, ap, subst, images_at, code_image, image_variables, other_variables, AreBelow, HasReadOnly}
use Rattle.subst.proofs.VariableListLemmas.{beside-all, beside-below, lists-from_view, variables-below, view-from_lists}
use Rattle.subst.proofs.DisjointImageLemmas.{other-parts, others-below, own-parts, pairs-tell}
use Rattle.subst.proofs.disjoint_images.DisjointImages.violation_with.Goals as goal

pub read_list-requires-clause-lists : goal.read_list-requires-clause-lists
read_list-requires-clause-lists c =
    let v = c.args.pairs.now in
    let σ = images_at c.args.symbols.now c.args.images.now in
    lists-from_view c.self.inside.left v σ c.self.inside.images c.self.invariant (subst (HasReadOnly v σ) (sym c.self.view_is) c.requires.read)

pub first_unpaired-requires-clause-variables : goal.first_unpaired-requires-clause-variables
first_unpaired-requires-clause-variables c =
    let v = c.args.pairs.now in
    subst (AreBelow (length v.names)) (sym (c.variables_in.ensures ∙ c.in_ok-own.ensures.range.lists))
    (variables-below v (length v.names) (code_image (images_at c.args.symbols.now c.args.images.now) c.args.x) (c.requires.named c.args.x c.requires.number))

pub first_unpaired-requires-clause-others : goal.first_unpaired-requires-clause-others
first_unpaired-requires-clause-others c =
    let v = c.args.pairs.now in
    let σ = images_at c.args.symbols.now c.args.images.now in
    subst (AreBelow (length v.names)) (sym (c.others.ensures ∙ c.in_ok-own.ensures.others))
    (beside-below (length v.names) (image_variables v σ c.args.x) (other_variables v σ c.args.x c.args.others.now) (others-below v σ c.args.x c.args.others.now c.requires.named c.requires.below))

pub returns-in_default-clause-read : goal.returns-in_default-clause-read
returns-in_default-clause-read c = record { each = (view-from_lists c.self.inside.left c.args.pairs.now (images_at c.args.symbols.now c.args.images.now) c.read_list.new.self c.in_ok-own.ensures.lists).each }

pub returns-in_default-clause-found : goal.returns-in_default-clause-found
returns-in_default-clause-found c =
    let v = c.args.pairs.now in
    let σ = images_at c.args.symbols.now c.args.images.now in
    let x = c.args.x in
    let others = c.args.others.now in
    let told =
    ap (λ (vs : List ℕ). list_all (λ u. list_all (is_numbered_pair v u) c.others.result.now) vs) (c.variables_in.ensures ∙ c.in_ok-own.ensures.range.lists)
    ∙ (ap (λ (os : List ℕ). list_all (λ u. list_all (is_numbered_pair v u) os) (image_variables v σ x)) (c.others.ensures ∙ c.in_ok-own.ensures.others)
    ∙ (beside-all (is_numbered_pair v) (image_variables v σ x) (other_variables v σ x others) ∙ pairs-tell v σ x others)) in
    sym told ∙ rw c.in_default.is at c.in_ok-variable.ensures

pub unreachable-requires : goal.unreachable-requires
unreachable-requires c =
    let found = rw c.in-Some.is at c.in_ok-variable.ensures in
    let other = other-parts c.args.pairs.now (images_at c.args.symbols.now c.args.images.now) c.args.x c.args.others.now c.in-Some.other (sym (ap (λ (os : List ℕ). has_number os c.in-Some.other) (c.others.ensures ∙ c.in_ok-own.ensures.others)) ∙ found.1) in
    true≢false (sym other.0 ∙ c.in_default-first_with.ensures)

pub returns-clause-read : goal.returns-clause-read
returns-clause-read c = record { each = (view-from_lists c.self.inside.left c.args.pairs.now (images_at c.args.symbols.now c.args.images.now) c.read_list.new.self c.in_ok-own.ensures.lists).each }

pub returns-clause-found : goal.returns-clause-found
returns-clause-found c =
    let v = c.args.pairs.now in
    let σ = images_at c.args.symbols.now c.args.images.now in
    let x = c.args.x in
    let found = rw c.in-Some.is at c.in_ok-variable.ensures in
    let own = own-parts v (code_image σ x) c.in-Some.variable (sym (ap (λ (vs : List ℕ). has_number vs c.in-Some.variable) (c.variables_in.ensures ∙ c.in_ok-own.ensures.range.lists)) ∙ found.0) in
    let other = other-parts v σ x c.args.others.now c.in-Some.other (sym (ap (λ (os : List ℕ). has_number os c.in-Some.other) (c.others.ensures ∙ c.in_ok-own.ensures.others)) ∙ found.1) in
    let first = c.in-Some-first_with.ensures in record {
      second = refl;
      stands = own.0;
      variable = own.1;
      first = record { listed = first.0; differ = first.1; stands = first.2; variable = other.1; no_pair = found.2 };
    }
