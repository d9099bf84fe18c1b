use Rattle.places.proofs.Words.{◌+◌, ◌-◌, ◌∙◌, ap, refl, subst, words}
use Rattle.places.proofs.MisreadLemmas.{misread-next, rest_of}
use Rattle.places.specs.Misread.{IsPieceFault, count_to_stop, piece}
use Rattle.places.proofs.misread.leave_out.Goals as goal

pub returns-in_ok-push-in-Shape-clause-read : goal.returns-in_ok-push-in-Shape-clause-read
returns-in_ok-push-in-Shape-clause-read c =
    let text = c.args.text.now in
    let spans = c.args.spans.now in
    let at = c.args.at in
    let token = c.in-Shape.token in
    let fault = at + (token - 1) in
    misread-next text spans at c.requires.inside token fault _ c.requires.before (subst (IsPieceFault (words text (piece text spans at))) c.in-Shape.is c.requires.fault) refl
    (ap (λ n. fault + n) (c.count_to_stop.ensures.count ∙ ap (λ rest. count_to_stop (words text rest)) (rest_of spans fault))) c.in_ok-push-in-Shape.ensures.items
