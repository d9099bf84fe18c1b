use Rattle.entries.proofs.Words.{◌≤◌, ◌<◌, arith, length-append, ◌∙◌, ◌∷◌, [], ap, sym, length, slice_get, take, take-append-le}
use Rattle.entries.proofs.StatementRecordLemmas.{get-last}
use Rattle.entries.specs.Mentions.{positions_of}
use Rattle.entries.proofs.MentionLemmas.{positions-push}
use Rattle.entries.proofs.mentions.MentionStack.pop.Goals as goal

pub returns-clause-some : goal.returns-clause-some
returns-clause-some c =
    let m = c.in_ok-last.last in
    let front = c.in_ok-last.ensures.some.0 in
    let is = c.in_ok-last.ensures.some.1 in
    let whole = c.self.view_is ∙ is in
    let le : m.beneath ≤ length front = c.self.invariant.linked (length front) m (ap (λ l. slice_get l (length front)) whole ∙ get-last front m) in
    let same = ap (take m.beneath) whole ∙ take-append-le m.beneath front (m ∷ []) le in
    ap positions_of is ∙ (positions-push front m le ∙ ap (λ r. m.position ∷ positions_of r) (sym same))

pub returns-clause-front : goal.returns-clause-front
returns-clause-front c =
    let m = c.in_ok-last.last in
    let front = c.in_ok-last.ensures.some.0 in
    let is = c.in_ok-last.ensures.some.1 in
    let le : m.beneath ≤ length front = c.self.invariant.linked (length front) m (ap (λ l. slice_get l (length front)) (c.self.view_is ∙ is) ∙ get-last front m) in
    let lt : m.beneath < length c.args.self.now = omega (arith, le, ap length is, length-append front (m ∷ [])) in
    (m.beneath, lt, ap (take m.beneath) c.self.view_is)
