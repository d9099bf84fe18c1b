-- A number for each node so far.
use Rattle.std.proofs.Common.{◌≡◌, vec_len}
use Rattle.program.proofs.desk_answers.AnsweringDesk.stored_bytes.Given as goal

abbrev pub invariant-loop-k : goal.invariant-loop-k
invariant-loop-k g l = vec_len l.bytes ≡ l.k
