use Rattle.nodes.proofs.Words.{ℕ, ◌+◌, Option, set, ap, sym, ◌∙◌, arith, vec_len, with_one_more_at}
use Rattle.nodes.proofs.ReportLemmas.{with_one_more_at-none, with_one_more_at-past, with_one_more_at-at, at_least}
use Rattle.nodes.proofs.report.add_one.Goals as goal

pub returns-in_default-clause-counts : goal.returns-in_default-clause-counts
returns-in_default-clause-counts c = sym (ap (λ (o : Option ℕ). with_one_more_at 0 o c.args.counts.now.items) c.in_default.is ∙ with_one_more_at-none 0 c.args.counts.now.items)

pub returns-in_default-get_mut-clause-counts : goal.returns-in_default-get_mut-clause-counts
returns-in_default-get_mut-clause-counts c =
    let past = at_least c.from.result (vec_len c.args.counts.now) c.in_default-get_mut.ensures.variant.1 in
    sym (ap (λ (o : Option ℕ). with_one_more_at 0 o c.args.counts.now.items) c.in-Some.is ∙ with_one_more_at-past 0 c.in-Some.k c.args.counts.now.items (omega (arith, past, c.from.ensures, c.args.counts.now.ok.0)))

pub returns-clause-counts : goal.returns-clause-counts
returns-clause-counts c =
    let item = c.in-Some-get_mut.ensures.item in
    ap (λ (n : ℕ). set c.args.counts.now.items c.from.result (n + 1)) (item.3.1 0)
    ∙ sym (ap (λ (o : Option ℕ). with_one_more_at 0 o c.args.counts.now.items) c.in-Some.is ∙ with_one_more_at-at 0 c.in-Some.k c.from.result c.args.counts.now.items (omega (arith, c.from.ensures)) item.3.0)
