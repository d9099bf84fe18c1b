use Rattle.frame.proofs.Words.{◌-◌, ap, sym, subst, arith, take, length, actives, is_disj, cut, AreSpansIn, names_in, labels_in, statements_of, stmt_of, option_symbols, entry_from_ref, spans-reverse}
use Rattle.frame.proofs.KindWalk.{walked, walk-from, walk-step, disjoint_chain}
use Rattle.frame.proofs.MakeLemmas.{AreGroups, groups-step, groups-start, groups-end}
use Rattle.frame.proofs.disjoint_groups.find_groups.Goals as goal

pub loop-last-init : goal.loop-last-init
loop-last-init c =
    let k = c.args.storage.now in
    let n = c.requires.place in
    let f = walk-from k (c.args.at - 1) c.last_active_at-last.result disjoint_chain (omega (arith, n.0, n.1)) c.last_active_at-last.ensures in
    record {
      at = f.at;
      found = groups-start k.entries c.args.variables.now _ _ _ (ap (cut c.new-grouped_variables.result.items) c.new-groups.ensures.items) f.same;
      within = subst (AreSpansIn (length c.new-grouped_variables.result.items)) (sym c.new-groups.ensures.items) tt;
    }

pub loop-last-smaller : goal.loop-last-smaller
loop-last-smaller c = (walk-step (entry_from_ref c.entry-entry.result c.entry-entry.ensures.0) disjoint_chain c.requires.stored c.loop-last.invariant.at c.loop-last-test.true c.entry-entry.ensures.1).smaller

pub loop-last-preserved : goal.loop-last-preserved
loop-last-preserved c =
    let k = c.args.storage.now in
    let e = entry_from_ref c.entry-entry.result c.entry-entry.ensures.0 in
    let s = walk-step e disjoint_chain c.requires.stored c.loop-last.invariant.at c.loop-last-test.true c.entry-entry.ensures.1 in
    let all = actives is_disj (take (c.args.at - 1) (statements_of k)) in
    let rest = walked is_disj k c.entry-entry.result.before.last_active.disjoint in
    record {
      at = s.at;
      found = subst (AreGroups k.entries c.args.variables.now all rest) (sym c.in_ok-add_group.ensures.added)
          (groups-step k.entries c.args.variables.now all (walked is_disj k c.loop-last.last) rest c.loop-last.last (stmt_of (names_in k) (labels_in k) e) (cut c.loop-last.grouped_variables.items c.loop-last.groups.items) e.symbols s.list (ap option_symbols c.entry-entry.ensures.1) c.loop-last.invariant.found);
      within = c.add_group.ensures.within;
    }

pub returns : goal.returns
returns c =
    let k = c.args.storage.now in
    groups-end k.entries c.args.variables.now (actives is_disj (take (c.args.at - 1) (statements_of k))) (walked is_disj k c.loop-last.last) c.loop-last.grouped_variables.items c.loop-last.groups.items c.reverse.new.self.items c.loop-last.invariant.found
    (ap (walked is_disj k) c.loop-last-test.false) c.reverse.ensures.items

pub invariant_of-result : goal.invariant_of-result
invariant_of-result c =
    subst (AreSpansIn (length c.loop-last.grouped_variables.items)) (sym c.reverse.ensures.items) (spans-reverse (length c.loop-last.grouped_variables.items) c.loop-last.groups.items c.loop-last.invariant.within)
