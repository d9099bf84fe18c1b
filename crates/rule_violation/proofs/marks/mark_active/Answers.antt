use Rattle.rule_violation.proofs.Words.{◌≡◌, ◌∙◌, sym, ap, arith, ◌+◌, ◌-◌, ◌<◌, ◌==◌, ◌&&◌, drop, length, [], list_any, or_comm, active_from, marked, has_name_in}
use Rattle.rule_violation.proofs.MarksLemmas.{marked-both, marked-none}
use Rattle.rule_violation.proofs.SearchLemmas.{active_back, closed_on, closed_few, none_active, none_closed}
use Rattle.rule_violation.proofs.marks.mark_active.Goals as goal

pub loop-i-init : goal.loop-i-init
loop-i-init c =
    let S = c.args.earlier.now in let p = c.args.role in
    record {
      marks = sym (marked-none (λ x. list_any (λ q. has_name_in p x q.1) (active_from (length S + 1) (drop (length S) S))) c.args.mark (λ x. none_active (λ q. has_name_in p x q.1) S) c.args.names.now c.args.marks.now);
      closed_later = sym (none_closed S);
      few = omega arith;
    }

pub loop-i-preserved : goal.loop-i-preserved
loop-i-preserved c =
    let S = c.args.earlier.now in let p = c.args.role in let v = c.args.mark in let names = c.args.names.now in
    let h = c.loop-i.i in let i = c.loop-i.i - 1 in let s = c.index-earlier-i.result in let closed_later = c.loop-i.closed_later in
    let inside : i < length S = omega arith in
    let next : h ≡ i + 1 = omega arith in
    record {
      marks = c.mark_where_active.ensures
          ∙ (ap (marked (λ x. closed_later == 0 && has_name_in p x s) v names) c.loop-i.invariant.marks
          ∙ marked-both (λ x. closed_later == 0 && has_name_in p x s) (λ x. list_any (λ q. has_name_in p x q.1) (active_from (h + 1) (drop h S))) (λ x. list_any (λ q. has_name_in p x q.1) (active_from (i + 1) (drop i S))) v
          (λ x. active_back S i h s closed_later (has_name_in p x) inside c.index-earlier-i.is next c.loop-i.invariant.closed_later
          ∙ or_comm (closed_later == 0 && has_name_in p x s) (list_any (λ q. has_name_in p x q.1) (active_from (h + 1) (drop h S)))) names c.args.marks.now);
      closed_later = c.closed_blocks_from-closed_later.ensures ∙ closed_on S i h s closed_later (has_name_in p []) inside c.index-earlier-i.is next c.loop-i.invariant.closed_later;
      few = let few = closed_few closed_later i h (length S) s next c.loop-i.invariant.few in omega (arith, few, c.closed_blocks_from-closed_later.ensures);
    }
