use Rattle.verify.proofs.Words.{◌≡◌, ◌<◌, ◌≤◌, ◌∷◌, [], ap, ◌∙◌, length, map, take, take_all, arith, sym, subst, decode, stands-within, StopsAt, AreEntries, walk}
use Rattle.verify.proofs.StopLemmas.{stopped, count-items, stops-wrong, stops-right, stops-other, stops-named}
use Rattle.verify.proofs.failure.run.Goals as goal

pub active_pairs-pairs-requires : goal.active_pairs-pairs-requires
active_pairs-pairs-requires g c = stands-within c.args.frames.now.statements c.args.at c.requires.0 c.requires.1

pub expr-requires : goal.expr-requires
expr-requires g c = stands-within c.args.frames.now.statements c.args.at c.requires.0 c.requires.1

pub returns-then-done-parts-clause-outcome : goal.returns-then-done-parts-clause-outcome
returns-then-done-parts-clause-outcome g c =
    let S = c.args.frames.now.statements in let names = c.args.frames.now.names in let at = c.args.at in let items = c.args.items.now in
    let labels = c.parts-parts.result.labels.now in let numbers = c.parts-parts.result.numbers.now in let st = c.run_items.new.buffers.results.results in
    let done = c.in_ok-done.done in let count = count-items labels numbers items c.parts-parts.ensures in
    let stops : StopsAt S at names items done st = stopped S names at labels numbers items c.fill_table.new.table.items c.deref.result.now done st c.parts-parts.ensures c.deref.ensures.value c.in_ok-fill_table.ensures.entries c.in_ok-done.ensures.stops in
    let less : done < length items = (let l = c.if-done-parts.true in omega (arith, l, count)) in
    (stops-wrong S names at c.active_pairs-pairs.ensures.legal items done st c.requires.0 c.requires.1 stops less, (less, record { stops = stops; light = c.is_only-is_only.ensures.light }))

pub returns-then-is_only-clause-outcome : goal.returns-then-is_only-clause-outcome
returns-then-is_only-clause-outcome g c =
    let S = c.args.frames.now.statements in let names = c.args.frames.now.names in let at = c.args.at in let items = c.args.items.now in
    let labels = c.parts-parts.result.labels.now in let numbers = c.parts-parts.result.numbers.now in let st = c.run_items.new.buffers.results.results in
    let done = c.in_ok-done.done in let count = count-items labels numbers items c.parts-parts.ensures in
    let stops : StopsAt S at names items done st = stopped S names at labels numbers items c.fill_table.new.table.items c.deref.result.now done st c.parts-parts.ensures c.deref.ensures.value c.in_ok-fill_table.ensures.entries c.in_ok-done.ensures.stops in
    let one = c.is_only-is_only.ensures.only.0 c.if-is_only.true in (
      stops-right S names at c.active_pairs-pairs.ensures.legal items done st c.requires.0 c.requires.1 stops c.expr.result.now (let all = c.if-done-parts.false in omega (arith, all, count))
          (c.expr.ensures.same c.requires.0 c.requires.1) one c.is_only-is_only.ensures.light,
      λ s stands. ap (map (decode names)) one ∙ ap (λ e. e ∷ []) (c.expr.ensures.same s stands),
    )

pub returns-then-is_only-clause-heard : goal.returns-then-is_only-clause-heard
returns-then-is_only-clause-heard g c = λ p.
    let S = c.args.frames.now.statements in let names = c.args.frames.now.names in let at = c.args.at in let items = c.args.items.now in
    let labels = c.parts-parts.result.labels.now in let numbers = c.parts-parts.result.numbers.now in let st = c.run_items.new.buffers.results.results in
    let done = c.in_ok-done.done in let count = count-items labels numbers items c.parts-parts.ensures in
    let stops : StopsAt S at names items done st = stopped S names at labels numbers items c.fill_table.new.table.items c.deref.result.now done st c.parts-parts.ensures c.deref.ensures.value c.in_ok-fill_table.ensures.entries c.in_ok-done.ensures.stops in
    subst (λ is. g.L.Listener.follows (walk c.args.frames.now at is c.run_items.new.buffers.results) c.run_items.new.listener)
    (ap (take done) c.parts-parts.ensures ∙ take_all done items (let all = c.if-done-parts.false in omega (arith, all, count)))
    (c.in_ok-done.ensures.heard labels (subst (AreEntries S at labels) (sym c.deref.ensures.value) c.in_ok-fill_table.ensures.entries) p)

pub returns-then-done-parts-clause-heard : goal.returns-then-done-parts-clause-heard
returns-then-done-parts-clause-heard g c = λ p.
    let S = c.args.frames.now.statements in let at = c.args.at in let labels = c.parts-parts.result.labels.now in let done = c.in_ok-done.done in
    subst (λ is. g.L.Listener.follows (walk c.args.frames.now at is c.run_items.new.buffers.results) c.run_items.new.listener)
    (ap (take done) c.parts-parts.ensures)
    (c.in_ok-done.ensures.heard labels (subst (AreEntries S at labels) (sym c.deref.ensures.value) c.in_ok-fill_table.ensures.entries) p)

pub returns-clause-heard : goal.returns-clause-heard
returns-clause-heard g c = λ p.
    let S = c.args.frames.now.statements in let at = c.args.at in let items = c.args.items.now in
    let labels = c.parts-parts.result.labels.now in let numbers = c.parts-parts.result.numbers.now in
    let done = c.in_ok-done.done in let count = count-items labels numbers items c.parts-parts.ensures in
    subst (λ is. g.L.Listener.follows (walk c.args.frames.now at is c.run_items.new.buffers.results) c.run_items.new.listener)
    (ap (take done) c.parts-parts.ensures ∙ take_all done items (let all = c.if-done-parts.false in omega (arith, all, count)))
    (c.in_ok-done.ensures.heard labels (subst (AreEntries S at labels) (sym c.deref.ensures.value) c.in_ok-fill_table.ensures.entries) p)

pub returns-clause-outcome : goal.returns-clause-outcome
returns-clause-outcome g c =
    let S = c.args.frames.now.statements in let names = c.args.frames.now.names in let at = c.args.at in let items = c.args.items.now in
    let labels = c.parts-parts.result.labels.now in let numbers = c.parts-parts.result.numbers.now in let st = c.run_items.new.buffers.results.results in
    let done = c.in_ok-done.done in let count = count-items labels numbers items c.parts-parts.ensures in
    let stops : StopsAt S at names items done st = stopped S names at labels numbers items c.fill_table.new.table.items c.deref.result.now done st c.parts-parts.ensures c.deref.ensures.value c.in_ok-fill_table.ensures.entries c.in_ok-done.ensures.stops in
    let all : length items ≤ done = (let a = c.if-done-parts.false in omega (arith, a, count)) in
    let whole : done ≡ length items = (let within = stops.within in omega (arith, all, within)) in
    let other = stops-other S names at c.active_pairs-pairs.ensures.legal items done st c.requires.0 c.requires.1 stops c.expr.result.now all
    (c.expr.ensures.same c.requires.0 c.requires.1) c.expr.ensures.codes (λ one. let e = c.is_only-is_only.ensures.only.1 one in let f = c.if-is_only.false in cc) in (
      other,
      (
        record { stops = subst (λ k. StopsAt S at names items k st) whole stops; light = c.is_only-is_only.ensures.light },
        λ s stands one. other (stops-named S names at c.active_pairs-pairs.ensures.legal items done st s stands stops all c.is_only-is_only.ensures.light one),
      ),
    )
