use Rattle.frame.specs.ListsOfPairs.{is_numbered_pair}
use Rattle.subst.proofs.Words.{◌≡◌, true, is_over, IsPastList, ◌+◌, ◌∷◌, ℕ, List, length, refl, sum_by, list_all, sym, ◌∙◌, ap, subst, images_at, code_image, image_variables, numbered_row, compared_variables, other_variables, AreBelow, HasCounted, HasReadOnly, read_images}
use Rattle.subst.proofs.GroupLemmas.{list-named}
use Rattle.std.proofs.lemmas.Result.{IfOk-weaker, on_ok_weaker}
use Rattle.subst.proofs.PastLemmas.{err_weaker}
use Rattle.subst.proofs.VariableListLemmas.{beside-all, beside-below, counted-list, lists-from_view, past-list, variables-below, view-from_lists}
use Rattle.subst.proofs.DisjointImageLemmas.{others-below, pairs-tell}
use Rattle.subst.proofs.disjoint_images.DisjointImages.is_disjoint.Goals as goal

pub read_list-requires-clause-lists : goal.read_list-requires-clause-lists
read_list-requires-clause-lists c =
    let v = c.args.pairs.now in
    let σ = images_at c.args.symbols.now c.args.images.now in
    lists-from_view c.self.inside.left v σ c.self.inside.images c.self.invariant (subst (HasReadOnly v σ) (sym c.self.view_is) c.requires.read)

pub are_pairs-all-requires-clause-variables : goal.are_pairs-all-requires-clause-variables
are_pairs-all-requires-clause-variables c =
    let v = c.args.pairs.now in
    subst (AreBelow (length v.names)) (sym (c.variables_in.ensures ∙ c.in_ok-own.ensures.range.lists))
    (variables-below v (length v.names) (code_image (images_at c.args.symbols.now c.args.images.now) c.args.x) (c.requires.named c.args.x c.requires.number))

pub are_pairs-all-requires-clause-others : goal.are_pairs-all-requires-clause-others
are_pairs-all-requires-clause-others c =
    let v = c.args.pairs.now in
    let σ = images_at c.args.symbols.now c.args.images.now in
    subst (AreBelow (length v.names)) (sym (c.others.ensures ∙ c.in_ok-own.ensures.others))
    (beside-below (length v.names) (image_variables v σ c.args.x) (other_variables v σ c.args.x c.args.others.now) (others-below v σ c.args.x c.args.others.now c.requires.named c.requires.below))

-- the variables of the image of x
own : (c : goal.After-self-1) → c.variables_in.result.now ≡ image_variables c.args.pairs.now (images_at c.args.symbols.now c.args.images.now) c.args.x
own c = c.variables_in.ensures ∙ c.in_ok-own.ensures.range.lists

-- those with which they are compared
rest : (c : goal.After-self-1) → c.others.result.now ≡ compared_variables c.args.pairs.now (images_at c.args.symbols.now c.args.images.now) c.args.x c.args.others.now
rest c = c.others.ensures ∙ c.in_ok-own.ensures.others

-- what the variables of the image of x count with those with which they are compared
work : (c : goal.After-self-1) → sum_by (λ u. numbered_row c.args.pairs.now u + length c.others.result.now) c.variables_in.result.now
    ≡ sum_by (λ u. numbered_row c.args.pairs.now u + length (compared_variables c.args.pairs.now (images_at c.args.symbols.now c.args.images.now) c.args.x c.args.others.now)) (image_variables c.args.pairs.now (images_at c.args.symbols.now c.args.images.now) c.args.x)
work c =
    let v = c.args.pairs.now in
    ap (λ (vs : List ℕ). sum_by (λ u. numbered_row v u + length c.others.result.now) vs) (own c)
    ∙ ap (λ (os : List ℕ). sum_by (λ u. numbered_row v u + length os) (image_variables v (images_at c.args.symbols.now c.args.images.now) c.args.x)) (rest c)

pub returns-clause-read : goal.returns-clause-read
returns-clause-read c =
    let v = c.args.pairs.now in
    let σ = images_at c.args.symbols.now c.args.images.now in
    on_ok_weaker c.are_pairs-all.result (λ _. record { each = (view-from_lists c.self.inside.left v σ c.read_list.new.self c.in_ok-own.ensures.lists).each }) c.are_pairs-all.ensures.counted

pub returns-clause-counted : goal.returns-clause-counted
returns-clause-counted c =
    let v = c.args.pairs.now in
    let σ = images_at c.args.symbols.now c.args.images.now in
    let x = c.args.x in
    let others = c.args.others.now in
    let new = c.read_list.new.self in
    let all = record new { work = c.are_pairs-all.new.work } in
    on_ok_weaker c.are_pairs-all.result
    (λ counted. subst (λ a. HasCounted v σ (x ∷ others) a (read_images c.self.inside.left all)) c.self.view_is
    (counted-list c.self.inside.left v σ x others c.self.inside.images new all c.in_ok-own.ensures.counted refl (counted ∙ ap (λ n. new.work + n) (work c)))) c.are_pairs-all.ensures.counted

pub returns-clause-costly : goal.returns-clause-costly
returns-clause-costly c =
    let v = c.args.pairs.now in
    let σ = images_at c.args.symbols.now c.args.images.now in
    let x = c.args.x in
    let others = c.args.others.now in
    let new = c.read_list.new.self in
    let left = c.self.inside.left in
    err_weaker c.are_pairs-all.result _ _
    (λ stop costly is. subst (IsPastList v σ (x ∷ others)) c.self.view_is
    (past-list left v σ x others c.self.inside.images new c.in_ok-own.ensures.counted (subst (λ n. is_over left (new.work + n) ≡ true) (work c) (costly is)))) c.are_pairs-all.ensures.costly

pub returns-clause-disjoint : goal.returns-clause-disjoint
returns-clause-disjoint c =
    let v = c.args.pairs.now in
    let σ = images_at c.args.symbols.now c.args.images.now in
    IfOk-weaker c.are_pairs-all.result _ _
    (λ ok pairs. pairs
    ∙ (ap (λ (vs : List ℕ). list_all (λ u. list_all (is_numbered_pair v u) c.others.result.now) vs) (own c)
    ∙ (ap (λ (os : List ℕ). list_all (λ u. list_all (is_numbered_pair v u) os) (image_variables v σ c.args.x)) (rest c)
    ∙ (beside-all (is_numbered_pair v) (image_variables v σ c.args.x) (other_variables v σ c.args.x c.args.others.now)
    ∙ (pairs-tell v σ c.args.x c.args.others.now ∙ list-named v.names c.requires.distinct v.statements σ c.args.x c.args.others.now c.requires.number c.requires.below))))) c.are_pairs-all.ensures.pairs
