use Rattle.rule_violation.proofs.Words.{◌∙◌, sym, refl, length, arith, slice_get_read, has_name_in}
use Rattle.rule_violation.proofs.SearchLemmas.{found_at, rest_decides, rest_empty}
use Rattle.rule_violation.proofs.search.find_earlier.Goals as goal

pub returns-then-has_name_in : goal.returns-then-has_name_in
returns-then-has_name_in c =
    found_at c.args.earlier.now c.loop-i.i c.index-earlier-i.result (has_name_in c.args.role c.args.name.now)
    (slice_get_read c.args.earlier.now (length c.args.earlier.now) c.loop-i.i c.index-earlier-i.result refl c.loop-i-test.true c.index-earlier-i.is)
    (sym c.has_name_in.ensures ∙ c.if-has_name_in.true)

pub loop-i-preserved : goal.loop-i-preserved
loop-i-preserved c =
    c.loop-i.invariant ∙ rest_decides (has_name_in c.args.role c.args.name.now) c.args.earlier.now c.loop-i.i c.index-earlier-i.result c.loop-i-test.true c.index-earlier-i.is
    (sym c.has_name_in.ensures ∙ c.if-has_name_in.false)

pub returns : goal.returns
returns c = c.loop-i.invariant ∙ rest_empty (has_name_in c.args.role c.args.name.now) c.args.earlier.now c.loop-i.i (omega arith)
