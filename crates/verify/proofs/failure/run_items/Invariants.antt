use Rattle.verify.proofs.Words.{◌+◌, List, before, map, named, take, Name, HasLegalProperties, item_of, AreNamed, AreEntries, walk, walk_start}
use Rattle.verify.proofs.RunCountLemmas.{CountedRun}
use Rattle.verify.proofs.StepLemmas.{Reached}
use Rattle.verify.specs.Metered.{with_work}
use Rattle.verify.proofs.failure.run_items.Given as goal

-- the results are those of a run over the items before the next one, the listener follows it, and
-- what they count besides their number and the weight of the results was counted
abbrev pub invariant-loop-done : goal.invariant-loop-done
invariant-loop-done g l =
    (legal : HasLegalProperties l.context.frames.now.statements l.context.frames.now.names)
    × AreNamed l.context.frames.now.names l.buffers.results.results
    × ((labels : List Name) → AreEntries l.context.frames.now.statements l.context.at labels l.table
    → Reached l.context.frames.now.statements l.context.frames.now.names l.context.at legal (map (item_of labels) (take l.done l.numbers)) l.buffers.results.results)
    × ((labels : List Name) → AreEntries l.context.frames.now.statements l.context.at labels l.table → g.L.Listener.follows (walk_start l.context.frames.now l.context.at) l.initial.listener
    → g.L.Listener.follows (walk l.context.frames.now l.context.at (map (item_of labels) (take l.done l.numbers)) l.buffers.results) l.listener)
    × ((labels : List Name) → AreEntries l.context.frames.now.statements l.context.at labels l.table
    → CountedRun (before l.context.frames.now.statements l.context.at) (map (item_of labels) (take l.done l.numbers)) (named l.context.frames.now.names l.buffers.results.results) l.initial.meter
    (with_work l.meter (l.done + l.buffers.results.results.weight)))
