use Rattle.rule_violation.proofs.Words.{◌≡◌, ◌+◌, ◌-◌, ◌<◌, length, arith, sym, ◌∙◌, has_name_in}
use Rattle.rule_violation.proofs.SearchLemmas.{found_active, none_back, closed_on, closed_few}
use Rattle.rule_violation.proofs.search.find_active.Goals as goal

pub returns-then-is_active_match : goal.returns-then-is_active_match
returns-then-is_active_match c =
    found_active c.args.earlier.now (c.loop-i.i - 1) c.loop-i.i c.index-earlier-i.result c.loop-i.closed_later (has_name_in c.args.role c.args.name.now)
    (omega arith) c.index-earlier-i.is (omega arith) c.loop-i.invariant.closed_later (sym c.is_active_match.ensures ∙ c.if-is_active_match.true)

pub loop-i-preserved : goal.loop-i-preserved
loop-i-preserved c =
    let inside : c.loop-i.i - 1 < length c.args.earlier.now = omega arith in
    let next : c.loop-i.i ≡ (c.loop-i.i - 1) + 1 = omega arith in
    record {
      none = none_back c.args.earlier.now (c.loop-i.i - 1) c.loop-i.i c.index-earlier-i.result c.loop-i.closed_later (has_name_in c.args.role c.args.name.now)
          inside c.index-earlier-i.is next c.loop-i.invariant.closed_later c.loop-i.invariant.none (sym c.is_active_match.ensures ∙ c.if-is_active_match.false);
      closed_later = c.closed_blocks_from-closed_later.ensures ∙ closed_on c.args.earlier.now (c.loop-i.i - 1) c.loop-i.i c.index-earlier-i.result c.loop-i.closed_later (has_name_in c.args.role c.args.name.now)
          inside c.index-earlier-i.is next c.loop-i.invariant.closed_later;
      few = let few = closed_few c.loop-i.closed_later (c.loop-i.i - 1) c.loop-i.i (length c.args.earlier.now) c.index-earlier-i.result next c.loop-i.invariant.few in
          omega (arith, few, c.closed_blocks_from-closed_later.ensures);
    }
