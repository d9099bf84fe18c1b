use Rattle.std.proofs.Common.{◌≡◌, ◌∙◌, ◌+◌, ◌++◌, ◌∷◌, [], ap, sym, get_or, take, append-nil}
use Rattle.std.proofs.lemmas.Grind.{flat_map-append}
use Rattle.std.proofs.lemmas.List.{take_more}
use Rattle.std.specs.Prelude.{flat_map}
use Rattle.questions.proofs.CauseLemmas.{cause_is}
use Rattle.questions.specs.AllFaults.{refusal_line, unproved_line}
use Rattle.questions.proofs.unproved_proofs.unproved_lines.Goals as goal

pub loop-at-preserved : goal.loop-at-preserved
loop-at-preserved c =
    let S = c.args.database.now in
    let unproved = c.args.unproved.now in
    let i = c.loop-at.at-index in
    let less = c.loop-at-test.true in
    let at = get_or unproved i 0 in
    let line = unproved_line S at in
    let before = flat_map (unproved_line S) (take i unproved) in
    let why : refusal_line c.cause.result ≡ line = ap refusal_line (cause_is S at c.cause.result (c.requires i 0 less) c.cause.ensures) in
    let more : flat_map (unproved_line S) (take (i + 1) unproved) ≡ before ++ line =
    ap (flat_map (unproved_line S)) (take_more unproved i 0 less) ∙ (flat_map-append (unproved_line S) (take i unproved) (at ∷ []) ∙ ap (λ r. before ++ r) (append-nil line)) in
    c.in_ok-push_refusal.ensures ∙ (ap (λ r. c.loop-at.lines.items ++ r) why ∙ (ap (λ b. b ++ line) c.loop-at.invariant ∙ sym more))
