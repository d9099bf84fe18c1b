use Rattle.unproved.proofs.Words.{◌+◌, Some, subst, sym, IsFirstUnprovedIn, AreUnproved}
use Rattle.unproved.proofs.UnprovedLemmas.{all-found, least-more, least-within}
use Rattle.unproved.proofs.search.push_unproved_of_range.Goals as goal

pub loop-found-preserved : goal.loop-found-preserved
loop-found-preserved g c =
    let S = c.args.search.now.statements.now in
    let start = c.loop-found.start in
    let end = c.args.end in
    let i = c.in-Some.index in
    let least : IsFirstUnprovedIn S start end (Some i) = subst (IsFirstUnprovedIn S start end) c.in-Some.is c.loop-found.invariant.least in
    record {
      within = least-within S start end i least;
      positions = subst (AreUnproved S 0 (start + i + 1)) (sym c.in_ok-push.ensures.items) (least-more S start end i least c.loop-found.positions.items c.loop-found.invariant.positions);
      least = c.in_ok-found-2.ensures;
    }

pub returns : goal.returns
returns g c =
    let now = c.loop-found.invariant in
    all-found c.args.search.now.statements.now c.loop-found.start c.args.end c.loop-found.positions.items c.loop-found.found c.in_default.not-Some now.within now.positions now.least
