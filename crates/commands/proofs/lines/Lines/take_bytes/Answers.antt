use Rattle.commands.proofs.Words.{◌≡◌, rules, RemainingLines, bytes_before}
use Rattle.commands.proofs.TextsLemmas.{past_taken}
use Rattle.commands.proofs.lines.Lines.take_bytes.Goals as goal

pub returns : goal.returns
returns c =
    let now : RemainingLines = record { number = c.self.inside.number; lines = c.self.inside.rest } in
    let is : c.args.self.now ≡ now = first_of (search rules, cc) in
    past_taken (bytes_before c.args.count) c.args.self.now c.self.inside.number c.self.inside.rest c.take_bytes.new.self
    c.in_ok-taken.taken.text.now c.in_ok-taken.taken.count is c.in_ok-taken.ensures.text c.in_ok-taken.ensures.rest.1
