use Rattle.frame.proofs.Words.{◌∙◌, ap, refl, subst, sym, map, length, decoded_hypothesis, false≢true, AllBelow}
use Rattle.frame.proofs.KeptStatementLemmas.{lists-cited}
use Rattle.frame.proofs.frames.Frames.buffered_view.Goals as goal

pub returns : goal.returns
returns c = λ s h.
    let v = c.args.self.now in
    lists-cited v.statements v.names c.args.a s _ c.expr.result.now ((rw (← c.buffers.view_is) at c.requires.buffers) s h) (c.expr.ensures.same s h) c.expr.ensures.codes _
    c.deref.ensures.value (c.new.ensures ∙ ap (map decoded_hypothesis) c.deref-2.ensures.value) refl (λ listed. absurd (false≢true listed))
    (subst (AllBelow (length v.names)) (sym c.new-2.ensures) tt)
