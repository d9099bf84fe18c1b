use Rattle.std.proofs.Common.{◌∙◌, sym}
use Rattle.library.proofs.MayCiteLemmas.{lists-next, lists-some}
use Rattle.library.proofs.cited_by.lists_marked.Goals as goal

pub loop-token-preserved : goal.loop-token-preserved
loop-token-preserved c =
    lists-next c.args.frames.now.statements c.requires.once c.args.marks.now c.args.tokens.now c.loop-token.remaining c.next.new.self c.in-Some.token.now c.as_slice.result.now c.position.result
    c.in-Some.ensures.steps c.as_slice.ensures (sym c.eq.ensures ∙ c.if-eq.false) c.position.ensures (sym c.is_marked.ensures ∙ c.if-is_marked.false) c.loop-token.invariant

pub returns-then-is_marked-clause-some : goal.returns-then-is_marked-clause-some
returns-then-is_marked-clause-some c = λ one.
    lists-some c.args.frames.now.statements c.requires.once c.args.marks.now c.args.tokens.now c.loop-token.remaining c.next.new.self c.in-Some.token.now c.as_slice.result.now c.position.result
    c.in-Some.ensures.steps c.as_slice.ensures (sym c.eq.ensures ∙ c.if-eq.false) c.position.ensures (sym c.is_marked.ensures ∙ c.if-is_marked.true) c.loop-token.invariant
