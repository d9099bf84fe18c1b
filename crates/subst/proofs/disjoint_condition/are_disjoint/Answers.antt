use Rattle.subst.proofs.Words.{◌∙◌, arith, sym, ap, images_of_names, image, are_disjoint}
use Rattle.subst.proofs.SubstitutionLemmas.{image-named, image-unnamed}
use Rattle.subst.proofs.DisjointLemmas.{constant_left, constant_right}
use Rattle.subst.proofs.disjoint_condition.are_disjoint.Goals as goal

pub returns-in_default : goal.returns-in_default
returns-in_default c =
    let v = c.args.pairs.now in
    let f = image (images_of_names v.names c.args.subst.now) c.args.y.now in
    sym (ap (λ e. are_disjoint v.statements e f) (image-unnamed v.names c.args.subst.now c.args.x.now (sym c.number.ensures.number ∙ c.in_default.is))
    ∙ constant_left v.statements c.args.x.now f c.in_default.ensures.unnamed)

pub returns-in_default-number : goal.returns-in_default-number
returns-in_default-number c =
    let v = c.args.pairs.now in
    let e = image (images_of_names v.names c.args.subst.now) c.args.x.now in
    sym (ap (are_disjoint v.statements e) (image-unnamed v.names c.args.subst.now c.args.y.now (sym c.number-2.ensures.number ∙ c.in_default-number.is))
    ∙ constant_right v.statements e c.args.y.now c.in_default-number.ensures.unnamed)

pub returns : goal.returns
returns c =
    let v = c.args.pairs.now in
    rw (image-named v.names c.args.subst.now c.args.x.now c.in-Some.left (sym c.number.ensures.number ∙ c.in-Some.is), image-named v.names c.args.subst.now c.args.y.now c.in-Some-number.right (sym c.number-2.ensures.number ∙ c.in-Some-number.is)) (grind arith)
