use Rattle.std.proofs.Common.{◌∙◌, sym, map}
use Rattle.extract.proofs.ParallelLemmas.{ok-one, ok-both, walk-past, walk-both}
use Rattle.extract.proofs.comparison.advance.Goals as goal

pub returns-else-listed : goal.returns-else-listed
returns-else-listed c =
    ok-one c.add_if_legal.result _ _ c.add_if_legal.ensures
    (λ yes grown y w. walk-past c.args.whole.now c.args.part.now (map (λ label. label.now) c.args.labels.now) c.args.index c.args.walk.now.found_count
    c.args.walk.now.whole_scope.statements c.args.walk.now.part_scope.statements w c.index-whole-index.result _ c.requires.within c.index-whole-index.is
    (sym c.is_listed-listed.ensures ∙ c.if-listed.false) (grown y))

pub returns : goal.returns
returns c =
    ok-both c.pass_both.result _ _ _ c.pass_both.ensures.whole c.pass_both.ensures.part
    (λ yes whole part y w. walk-both c.args.whole.now c.args.part.now (map (λ label. label.now) c.args.labels.now) c.args.index c.args.walk.now.found_count
    c.args.walk.now.whole_scope.statements c.args.walk.now.part_scope.statements w c.index-whole-index.result _ _ _ c.requires.within c.index-whole-index.is
    (c.has_statement_at.ensures.equal c.if-not-has_statement_at.false) (λ want. c.in_ok-has_same_frame_if_listed.ensures c.if-not-branch.false (c.is_listed-listed.ensures ∙ want))
    c.pass_both.ensures.found_count (whole y) (part y))
