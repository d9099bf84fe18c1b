use Rattle.verify.proofs.Words.{◌∙◌, ◌≡◌, refl, IfOk-weaker, on_ok_weaker, stands-within, subst, sym, before, AreDistinct, AreOver}
use Rattle.subst.proofs.PastLemmas.{err_weaker}
use Rattle.verify.proofs.PairCountLemmas.{cited-at, cited-disjoint, cited-pairs, cited-past, none-listed, numbered-same}
use Rattle.verify.specs.Metered.{with_work}
use Rattle.verify.specs.declared.disjointness.CitedPairs.{CitedPairs}
use Rattle.verify.proofs.citation.are_images_disjoint.Goals as goal
use Rattle.verify.proofs.citation.are_images_disjoint.Goals.{After-active_pairs}

pub returns-then-len-eq0-clause-disjoint : goal.returns-then-len-eq0-clause-disjoint
returns-then-len-eq0-clause-disjoint c =
    (none-listed c.args.context.now c.args.position c.args.results.now.images c.requires.may.ready c.requires.over c.args.cited.now c.requires.cited c.requires.may.assertion c.args.meter.now c.if-cited.true (sym c.len.ensures ∙ c.if-len-eq0.true)).1

pub returns-then-len-eq0-clause-counted : goal.returns-then-len-eq0-clause-counted
returns-then-len-eq0-clause-counted c =
    (none-listed c.args.context.now c.args.position c.args.results.now.images c.requires.may.ready c.requires.over c.args.cited.now c.requires.cited c.requires.may.assertion c.args.meter.now c.if-cited.true (sym c.len.ensures ∙ c.if-len-eq0.true)).0

pub active_pairs-requires : goal.active_pairs-requires
active_pairs-requires c = stands-within c.args.context.now.frames.now.statements c.args.position c.requires.may.assertion.0 c.requires.may.assertion.1.0

pub are_disjoint-requires-clause-distinct : goal.are_disjoint-requires-clause-distinct
are_disjoint-requires-clause-distinct c = subst AreDistinct (sym c.requires.may.ready.names) c.requires.may.ready.legal.distinct

pub are_disjoint-requires-clause-over : goal.are_disjoint-requires-clause-over
are_disjoint-requires-clause-over c = subst (λ v. AreOver v c.args.results.now.images) (sym c.requires.may.ready.names) c.requires.over

-- the mandatory pairs of the assertion
abbrev given : After-active_pairs → CitedPairs
given c = record { are_kept = c.args.cited.now.pairs_listed; kept = c.copy.result; hypotheses = c.copy-2.result; active = c.active_pairs.result }

-- the pairs that are active at the assertion
own : (c : After-active_pairs) → c.active_pairs.result ≡ record { statements = before c.args.context.now.frames.now.statements c.args.position; names = c.args.context.now.frames.now.names }
own c = numbered-same c.active_pairs.result (before c.args.context.now.frames.now.statements c.args.position) c.args.context.now.frames.now.names c.active_pairs.ensures.statements c.active_pairs.ensures.names

pub are_disjoint-requires-clause-cited : goal.are_disjoint-requires-clause-cited
are_disjoint-requires-clause-cited c =
    cited-at c.args.context.now c.args.position c.args.results.now.images c.requires.may.ready c.requires.over c.args.cited.now c.requires.cited c.requires.may.assertion (given (goal.at.are_disjoint-requires-clause-cited c).After-active_pairs) (own (goal.at.are_disjoint-requires-clause-cited c).After-active_pairs) c.copy-2.ensures c.args.meter.now refl c.copy.ensures

pub returns-clause-disjoint : goal.returns-clause-disjoint
returns-clause-disjoint c =
    IfOk-weaker c.are_disjoint.result _ _
    (cited-disjoint c.args.context.now c.args.position c.args.results.now.images c.requires.may.ready c.requires.over c.args.cited.now c.requires.cited c.requires.may.assertion (given (goal.at.returns-clause-disjoint c).After-active_pairs) (own (goal.at.returns-clause-disjoint c).After-active_pairs) c.copy-2.ensures c.args.meter.now)
    c.are_disjoint.ensures.disjoint

pub returns-clause-counted : goal.returns-clause-counted
returns-clause-counted c =
    on_ok_weaker c.are_disjoint.result
    (cited-pairs c.args.context.now c.args.position c.args.results.now.images c.requires.may.ready c.requires.over c.args.cited.now c.requires.cited c.requires.may.assertion (given (goal.at.returns-clause-counted c).After-active_pairs) (own (goal.at.returns-clause-counted c).After-active_pairs) c.copy-2.ensures c.args.meter.now c.are_disjoint.new.meter)
    c.are_disjoint.ensures.counted

pub returns-clause-costly : goal.returns-clause-costly
returns-clause-costly c =
    err_weaker c.are_disjoint.result _ _
    (λ stop costly is. cited-past c.args.context.now c.args.position c.args.results.now.images c.requires.may.ready c.requires.over c.args.cited.now c.requires.cited c.requires.may.assertion (given (goal.at.returns-clause-costly c).After-active_pairs) (own (goal.at.returns-clause-costly c).After-active_pairs) c.copy-2.ensures
    (with_work c.args.meter.now c.args.results.now.results.weight) (costly is))
    c.are_disjoint.ensures.costly
