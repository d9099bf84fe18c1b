use Rattle.synod.proofs.Words.{◌≡◌, ◌∙◌, ◌≤◌, ◌++◌, ◌∷◌, [], ap, sym, arith, List, Option, Some, take_all, entry_at, front_of, Core, log_of, log_length}
use Rattle.synod.proofs.LogLemmas.{log_next, no_gap}
use Rattle.synod.proofs.node.NodeCore.log.Goals as goal
use Rattle.synod.proofs.node.NodeCore.log.Goals.{else-loop-slot-test, then-loop-slot-test+in_default}

pub returns : goal.returns
returns g c = elim c.loop-slot-test.branch [
  | else-loop-slot-test w ↦
      let front = ap (λ (core : Core g.row.V.Denot). log_length core.node) c.self.view_is in
      let all : log_length c.args.self.now.node ≤ c.loop-slot.slot = omega (arith, front, c.first_gap-slot-end.ensures.front, w.loop-slot-test.false) in
      c.loop-slot.invariant ∙ take_all c.loop-slot.slot (log_of c.args.self.now.node) all
  | then-loop-slot-test+in_default w ↦ absurd (no_gap c.self.inside.learner.state.learned c.loop-slot.slot (omega (arith, c.first_gap-slot-end.ensures.front, w.loop-slot-test.true)) w.in_default.ensures)
]

pub loop-slot-preserved : goal.loop-slot-preserved
loop-slot-preserved g c =
    let learned = ap (λ (core : Core g.row.V.Denot). core.node.learned) c.self.view_is in
    let here : entry_at c.args.self.now.node.learned c.loop-slot.slot ≡ Some c.in-Some.entry.now =
    ap (λ (xs : List (Option (Option g.row.V.Denot))). entry_at xs c.loop-slot.slot) (sym learned) ∙ c.in-Some.ensures in
    let low = ap (λ (xs : List (Option (Option g.row.V.Denot))). front_of xs) learned in
    log_next c.args.self.now.node.learned c.loop-slot.slot c.in-Some.entry.now c.loop-slot.log.items c.push.new.self.items (omega (arith, low, c.first_gap-slot-end.ensures.front, c.loop-slot-test.true)) here c.loop-slot.invariant
    (c.in_ok-push.ensures.items ∙ ap (λ (x : Option g.row.V.Denot). c.loop-slot.log.items ++ x ∷ []) c.in_ok-copy.ensures)
