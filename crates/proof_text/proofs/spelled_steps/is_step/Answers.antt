use Rattle.std.proofs.Common.{◌≡◌, rules, true, sym, ◌∙◌, ◌<◌, length, get_or, arith}
use Rattle.steps.specs.Rows.{no_row}
use Rattle.proof_text.proofs.SpelledLemmas.{step-there}
use Rattle.proof_text.proofs.spelled_steps.is_step.Goals as goal

pub returns : goal.returns
returns c = λ same.
    let e : c.eq.result ≡ true → c.taken.result.now ≡ c.args.taken.now = search rules in
    let less : c.args.place < length c.args.table.now = omega arith in
    let p : (get_or c.args.table.now c.args.place no_row).step.position ≡ c.args.position = omega arith in
    step-there c.args.table.now c.args.place c.args.position c.args.taken.now less p (sym c.taken.ensures ∙ e same)
