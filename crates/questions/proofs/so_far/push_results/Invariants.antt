use Rattle.std.specs.Prelude.{◌≡◌, ◌++◌, take, flat_map}
use Rattle.questions.specs.SoFar.{result_line}
use Rattle.questions.proofs.so_far.push_results.Given as goal

abbrev pub invariant-loop-known : goal.invariant-loop-known
invariant-loop-known l = l.lines.items ≡ l.initial.lines.items ++ flat_map (result_line l.frames.names l.far.table l.far.stack.items) (take l.known-index l.results)
