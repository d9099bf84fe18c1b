use Rattle.switch.proofs.Words.{◌≡◌, Event, Deliver, Restart}
use Rattle.switch.proofs.switch.Switch.deliver_or_leave.Goals as goal

pub returns-then-node-k-clause-logs : goal.returns-then-node-k-clause-logs
returns-then-node-k-clause-logs g c = λ k entries was. c.play.ensures.logs.others k entries (λ is. (let never : (let e : Event g.row.V.Denot = Deliver c.args.number in e) ≡ Restart k = is in cc)) was
