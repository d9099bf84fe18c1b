use Rattle.rule_violation.proofs.Words.{◌≡◌, ◌+◌, ◌-◌, ◌<◌, ap, drop, length, list_any, active_from, arith, sym, ◌∙◌, is_open}
use Rattle.rule_violation.proofs.SearchLemmas.{found_active, none_back, closed_on, closed_few}
use Rattle.rule_violation.proofs.by_rule.find_unclosed_block.Goals as goal

pub returns-then-is_active_open : goal.returns-then-is_active_open
returns-then-is_active_open c =
    let next : c.loop-i.i ≡ (c.loop-i.i - 1) + 1 = omega arith in
    record {
      active = found_active c.args.statements.now (c.loop-i.i - 1) c.loop-i.i c.index-statements-i.result c.loop-i.closed_later is_open
          (omega arith) c.index-statements-i.is next c.loop-i.invariant.closed_later (sym c.is_active_open.ensures ∙ c.if-is_active_open.true);
      last = ap (λ k. list_any (λ p. is_open p.1) (active_from (k + 1) (drop k c.args.statements.now))) (sym next) ∙ c.loop-i.invariant.none;
    }

pub loop-i-preserved : goal.loop-i-preserved
loop-i-preserved c =
    let inside : c.loop-i.i - 1 < length c.args.statements.now = omega arith in
    let next : c.loop-i.i ≡ (c.loop-i.i - 1) + 1 = omega arith in
    record {
      none = none_back c.args.statements.now (c.loop-i.i - 1) c.loop-i.i c.index-statements-i.result c.loop-i.closed_later is_open
          inside c.index-statements-i.is next c.loop-i.invariant.closed_later c.loop-i.invariant.none (sym c.is_active_open.ensures ∙ c.if-is_active_open.false);
      closed_later = c.closed_blocks_from-closed_later.ensures ∙ closed_on c.args.statements.now (c.loop-i.i - 1) c.loop-i.i c.index-statements-i.result c.loop-i.closed_later is_open
          inside c.index-statements-i.is next c.loop-i.invariant.closed_later;
      few = let few = closed_few c.loop-i.closed_later (c.loop-i.i - 1) c.loop-i.i (length c.args.statements.now) c.index-statements-i.result next c.loop-i.invariant.few in
          omega (arith, few, c.closed_blocks_from-closed_later.ensures);
    }
