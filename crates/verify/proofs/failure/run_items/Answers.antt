use Rattle.verify.proofs.Words.{◌≡◌, ◌∙◌, ◌+◌, ℕ, start, drop, take_all, Bool, true, false, Result, Ok, IfOk, Results, RunsItemIn, length, get_or, map, take, before, named, ap, arith, sym, subst, IfOk-at_ok, take-map, item_of, AreNamed, RunsItemByNumber, IsKept, IsHeard, walk}
use Rattle.verify.proofs.StepLemmas.{Reached, reached-start, reached-step, items-more}
use Rattle.verify.proofs.StopLemmas.{stops-at, stops-end}
use Rattle.verify.proofs.WalkLemmas.{heard-not, walk-begins, all-items}
use Rattle.verify.proofs.ItemCountLemmas.{passed_on}
use Rattle.verify.proofs.CountLemmas.{with-none}
use Rattle.verify.proofs.RunCountLemmas.{CountedRun, one-item, past-beside, past-with, run-end, run-more, run-none, run-past, run-short, run-stop, split-items, weight-grows}
use Rattle.verify.specs.Counted.{HasCountedItem}
use Rattle.verify.specs.Metered.{is_past, with_work}
use Rattle.verify.specs.Work.{items_work}
use Rattle.verify.proofs.failure.run_items.Goals as goal

pub loop-done-init : goal.loop-done-init
loop-done-init g c = (
  c.requires.ready.legal,
  subst (AreNamed c.args.context.now.frames.now.names) (sym c.start.ensures.results) (record { stack_named = tt; saved_named = tt }),
  λ labels are. reached-start c.args.context.now.frames.now.statements c.args.context.now.frames.now.names c.args.context.now.at c.requires.ready.legal c.start.new.self.results c.start.ensures.results,
  λ labels are p. subst (λ w. g.L.Listener.follows w c.args.listener.now) (sym (walk-begins c.args.context.now.frames.now c.args.context.now.at c.start.new.self c.start.ensures.results c.start.ensures.symbols)) p,
  λ labels are.
      let weight : c.start.new.self.results.weight ≡ 0 = ap (λ (r : Results ℕ). r.weight) c.start.ensures.results in
      run-none (before c.args.context.now.frames.now.statements c.args.context.now.at) (named c.args.context.now.frames.now.names c.start.new.self.results) c.args.meter.now _ (ap (named c.args.context.now.frames.now.names) c.start.ensures.results)
      (ap (λ (n : ℕ). with_work c.args.meter.now (0 + n)) weight ∙ sym (with-none c.args.meter.now)),
)

-- a property of the answer of a step holds of the flag that it returned
went : {E : Type 0} (r : Result Bool E) (ok b : Bool) (P : Bool → Type 0) → IfOk r P → r ≡ Ok ok → ok ≡ b → P b
went r ok b P h was is = subst P is (IfOk-at_ok P was h)

pub loop-done-preserved : goal.loop-done-preserved
loop-done-preserved g c =
    let S = c.args.context.now.frames.now.statements in let names = c.args.context.now.frames.now.names in let at = c.args.context.now.at in
    let f = c.args.context.now.frames.now in let old = c.loop-done.buffers.results in let new = c.step.new.buffers.results in let i = c.loop-done.done in let numbers = c.args.numbers.now in (
      c.loop-done.invariant.0,
      (went c.step.result c.in_ok-was_done.was_done true (λ v. RunsItemByNumber v S at names (item_of c.requires.entries.0 (get_or numbers i 0)) old.results new.results)
          (c.step.ensures.effect c.requires.entries.0 c.requires.entries.1) c.in_ok-was_done.was c.if-not-was_done.false).1,
      λ labels are.
          subst (λ is. Reached S names at c.loop-done.invariant.0 is new.results) (sym (items-more labels numbers i c.loop-done-test.true))
          (reached-step S names at c.loop-done.invariant.0 (map (item_of labels) (take i numbers)) (item_of labels (get_or numbers i 0)) old.results new.results (c.loop-done.invariant.2 labels are)
          (went c.step.result c.in_ok-was_done.was_done true (λ v. RunsItemByNumber v S at names (item_of labels (get_or numbers i 0)) old.results new.results) (c.step.ensures.effect labels are) c.in_ok-was_done.was c.if-not-was_done.false)),
      λ labels are p.
          subst (λ is. g.L.Listener.follows (walk f at is new) c.step.new.listener) (sym (items-more labels numbers i c.loop-done-test.true))
          ((went c.step.result c.in_ok-was_done.was_done true (λ v. IsHeard v g.L.Listener.follows f at (item_of labels (get_or numbers i 0)) old new c.loop-done.listener c.step.new.listener) (c.step.ensures.heard labels are) c.in_ok-was_done.was c.if-not-was_done.false)
          (map (item_of labels) (take i numbers)) (c.loop-done.invariant.3 labels are p)),
      λ labels are.
          let t = c.args.context.now in let D = before t.frames.now.statements t.at in let names = t.frames.now.names in
          let item = item_of labels (get_or numbers i 0) in
          let it : HasCountedItem t item old new c.loop-done.meter c.step.new.meter true = went c.step.result c.in_ok-was_done.was_done true (λ v. HasCountedItem t item old new c.loop-done.meter c.step.new.meter v) (c.step.ensures.counted labels are) c.in_ok-was_done.was c.if-not-was_done.false in
          let grows = weight-grows S at names c.loop-done.invariant.0 item old new c.in_ok-was_done.was_done
          (IfOk-at_ok (RunsItemIn t item old new) c.in_ok-was_done.was (c.step.ensures.effect labels are)) (IfOk-at_ok (λ ok. IsKept ok old new) c.in_ok-was_done.was c.step.ensures.kept) in
          subst (λ is. CountedRun D is (named names new.results) c.args.meter.now (with_work c.step.new.meter (i + 1 + new.results.weight))) (sym (items-more labels numbers i c.loop-done-test.true))
          (run-more D (map (item_of labels) (take i numbers)) item (named names old.results) (named names new.results) c.args.meter.now _ _ _ (c.loop-done.invariant.4 labels are)
          (one-item t item old new c.loop-done.meter c.step.new.meter true i it grows) it.gives),
    )

pub returns-then-not-was_done-clause-stops : goal.returns-then-not-was_done-clause-stops
returns-then-not-was_done-clause-stops g c = λ labels are.
    let S = c.args.context.now.frames.now.statements in let names = c.args.context.now.frames.now.names in let at = c.args.context.now.at in
    let old = c.loop-done.buffers.results in let new = c.step.new.buffers.results in
    stops-at S names at c.loop-done.invariant.0 labels c.args.numbers.now c.loop-done.done old.results new.results new.results c.loop-done-test.true (c.loop-done.invariant.2 labels are)
    (went c.step.result c.in_ok-was_done.was_done false (λ v. RunsItemByNumber v S at names (item_of labels (get_or c.args.numbers.now c.loop-done.done 0)) old.results new.results) (c.step.ensures.effect labels are) c.in_ok-was_done.was c.if-not-was_done.true)
    (went c.step.result c.in_ok-was_done.was_done false (λ v. IsKept v old new) c.step.ensures.kept c.in_ok-was_done.was c.if-not-was_done.true).0

pub returns-then-not-was_done-clause-heard : goal.returns-then-not-was_done-clause-heard
returns-then-not-was_done-clause-heard g c = λ labels are p.
    let f = c.args.context.now.frames.now in let at = c.args.context.now.at in let old = c.loop-done.buffers.results in let new = c.step.new.buffers.results in
    let numbers = c.args.numbers.now in let i = c.loop-done.done in let item = item_of labels (get_or numbers i 0) in
    subst (λ is. g.L.Listener.follows (walk f at is new) c.step.new.listener) (sym (take-map (item_of labels) i numbers))
    (heard-not g.L.Listener.follows f at (map (item_of labels) (take i numbers)) item old new c.loop-done.listener c.step.new.listener
    (went c.step.result c.in_ok-was_done.was_done false (λ v. IsHeard v g.L.Listener.follows f at item old new c.loop-done.listener c.step.new.listener) (c.step.ensures.heard labels are) c.in_ok-was_done.was c.if-not-was_done.true)
    (went c.step.result c.in_ok-was_done.was_done false (λ v. IsKept v old new) c.step.ensures.kept c.in_ok-was_done.was c.if-not-was_done.true)
    (c.loop-done.invariant.3 labels are p))

pub returns-clause-stops : goal.returns-clause-stops
returns-clause-stops g c = λ labels are.
    stops-end c.args.context.now.frames.now.statements c.args.context.now.frames.now.names c.args.context.now.at c.loop-done.invariant.0 labels c.args.numbers.now c.loop-done.done _
    c.loop-done.buffers.results.results (omega (arith, c.loop-done-test.false)) (omega arith) (c.loop-done.invariant.2 labels are)

pub returns-clause-heard : goal.returns-clause-heard
returns-clause-heard g c = λ labels are p.
    let f = c.args.context.now.frames.now in let at = c.args.context.now.at in let numbers = c.args.numbers.now in
    subst (λ is. g.L.Listener.follows (walk f at is c.loop-done.buffers.results) c.loop-done.listener)
    (all-items labels numbers c.loop-done.done _ (omega (arith, c.loop-done-test.false)) (omega arith))
    (c.loop-done.invariant.3 labels are p)

pub returns-then-is_past_with-clause-costly : goal.returns-then-is_past_with-clause-costly
returns-then-is_past_with-clause-costly g c = λ labels are e.
    let t = c.args.context.now in let D = before t.frames.now.statements t.at in let names = t.frames.now.names in
    let numbers = c.args.numbers.now in let i = c.loop-done.done in let item = item_of labels (get_or numbers i 0) in
    let old = c.loop-done.buffers.results in let new = c.step.new.buffers.results in let ok = c.in_ok-was_done.was_done in
    let it : HasCountedItem t item old new c.loop-done.meter c.step.new.meter ok = IfOk-at_ok (HasCountedItem t item old new c.loop-done.meter c.step.new.meter) c.in_ok-was_done.was (c.step.ensures.counted labels are) in
    let grows = weight-grows t.frames.now.statements t.at names c.loop-done.invariant.0 item old new ok
    (IfOk-at_ok (RunsItemIn t item old new) c.in_ok-was_done.was (c.step.ensures.effect labels are)) (IfOk-at_ok (λ b. IsKept b old new) c.in_ok-was_done.was c.step.ensures.kept) in
    subst (λ is. is_past (with_work c.args.meter.now (items_work D is start)) ≡ true) (sym (split-items labels numbers i c.loop-done-test.true))
    (run-past D (map (item_of labels) (take i numbers)) item (named names old.results) (named names new.results) c.args.meter.now _ _ _ (c.loop-done.invariant.4 labels are)
    (one-item t item old new c.loop-done.meter c.step.new.meter ok i it grows) ok (map (item_of labels) (drop (i + 1) numbers)) it.gives
    (past-with c.step.new.meter new.results.weight (i + 1 + new.results.weight) (omega arith)
    (subst (λ n. is_past (with_work c.step.new.meter n) ≡ true) c.weight.ensures (sym c.is_past_with.ensures ∙ c.if-is_past_with.true))))

pub returns-then-not-was_done-clause-counted : goal.returns-then-not-was_done-clause-counted
returns-then-not-was_done-clause-counted g c = λ labels are.
    let t = c.args.context.now in let D = before t.frames.now.statements t.at in let names = t.frames.now.names in
    let numbers = c.args.numbers.now in let i = c.loop-done.done in let item = item_of labels (get_or numbers i 0) in
    let old = c.loop-done.buffers.results in let new = c.step.new.buffers.results in
    let it : HasCountedItem t item old new c.loop-done.meter c.step.new.meter false = went c.step.result c.in_ok-was_done.was_done false (λ v. HasCountedItem t item old new c.loop-done.meter c.step.new.meter v) (c.step.ensures.counted labels are) c.in_ok-was_done.was c.if-not-was_done.true in
    let grows = weight-grows t.frames.now.statements t.at names c.loop-done.invariant.0 item old new c.in_ok-was_done.was_done
    (IfOk-at_ok (RunsItemIn t item old new) c.in_ok-was_done.was (c.step.ensures.effect labels are)) (IfOk-at_ok (λ b. IsKept b old new) c.in_ok-was_done.was c.step.ensures.kept) in
    c.in_ok-count_items.ensures
    ∙ (run-stop D (map (item_of labels) (take i numbers)) item (named names old.results) (named names new.results) c.args.meter.now _ _ _ (c.loop-done.invariant.4 labels are)
    (one-item t item old new c.loop-done.meter c.step.new.meter false i it grows) (map (item_of labels) (drop (i + 1) numbers)) it.gives
    ∙ ap (λ is. with_work c.args.meter.now (items_work D is start)) (sym (split-items labels numbers i c.loop-done-test.true)))

pub returns-clause-counted : goal.returns-clause-counted
returns-clause-counted g c = λ labels are.
    let t = c.args.context.now in let D = before t.frames.now.statements t.at in let names = t.frames.now.names in
    let all : length c.args.numbers.now ≡ c.loop-done.done = omega (arith, c.loop-done-test.false) in
    c.in_ok-count_items-2.ensures
    ∙ (ap (λ n. with_work c.loop-done.meter (n + c.loop-done.buffers.results.results.weight)) all
    ∙ (run-end D (map (item_of labels) (take c.loop-done.done c.args.numbers.now)) (named names c.loop-done.buffers.results.results) c.args.meter.now _ (c.loop-done.invariant.4 labels are)
    ∙ ap (λ ns. with_work c.args.meter.now (items_work D (map (item_of labels) ns) start)) (take_all c.loop-done.done c.args.numbers.now (omega (arith, c.loop-done-test.false)))))

pub returns-in_err-was_done-clause-costly : goal.returns-in_err-was_done-clause-costly
returns-in_err-was_done-clause-costly g c = λ labels are.
    let t = c.args.context.now in let D = before t.frames.now.statements t.at in let names = t.frames.now.names in
    let numbers = c.args.numbers.now in let i = c.loop-done.done in let old = c.loop-done.buffers.results.results in
    passed_on c.from_residual.result c.in_err-was_done.field-0.0 _ c.from_residual.ensures.1
    (λ e.
    let past = c.in_err-was_done.ensures.costly labels are e in
    subst (λ is. is_past (with_work c.args.meter.now (items_work D is start)) ≡ true) (sym (split-items labels numbers i c.loop-done-test.true))
    (run-short D (map (item_of labels) (take i numbers)) (item_of labels (get_or numbers i 0)) (map (item_of labels) (drop (i + 1) numbers)) (named names old) c.args.meter.now (with_work c.loop-done.meter (i + old.weight)) past.extra
    (c.loop-done.invariant.4 labels are) past.within (past-beside c.loop-done.meter i old.weight past.extra past.past)))
