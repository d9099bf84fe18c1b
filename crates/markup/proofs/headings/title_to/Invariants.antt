use Rattle.std.specs.Prelude.{◌≡◌, ◌-◌, ◌≤◌, length}
use Rattle.mm_lex.specs.Comments.{runs_after}
use Rattle.markup.specs.Headings.{title_to}
use Rattle.markup.proofs.headings.title_to.Given as goal

abbrev pub invariant-loop-run : goal.invariant-loop-run
invariant-loop-run l = record {
  within : l.end ≤ length l.comment;
  order : l.start ≤ l.end;
  same : title_to l.comment l.level l.start l.end (runs_after l.comment l.end) ≡ title_to l.comment l.level l.fn.first.start l.fn.first.end (runs_after l.comment l.fn.first.end);
}

abbrev pub decreases-loop-run : goal.decreases-loop-run
decreases-loop-run l = length l.comment - l.end
