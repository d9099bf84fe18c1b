use Rattle.commands.proofs.Words.{◌≡◌, rules, RemainingLines, lines_before}
use Rattle.commands.proofs.TextsLemmas.{past_taken}
use Rattle.commands.proofs.lines.Lines.take_lines.Goals as goal

pub returns : goal.returns
returns c =
    let now : RemainingLines = record { number = c.self.inside.number; lines = c.self.inside.rest } in
    let is : c.args.self.now ≡ now = first_of (search rules, cc) in
    past_taken (lines_before c.args.word.now) c.args.self.now c.self.inside.number c.self.inside.rest c.take_until.new.self
    c.in_ok-taken.taken.text.now c.in_ok-taken.taken.count is c.in_ok-taken.ensures.text c.in_ok-taken.ensures.rest.1
