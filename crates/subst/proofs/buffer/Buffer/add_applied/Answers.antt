use Rattle.subst.proofs.Words.{take, arith, ◌∙◌, ap}
use Rattle.subst.proofs.CopyLemmas.{slice-kept, slice-filled}
use Rattle.subst.proofs.buffer.Buffer.add_applied.Goals as goal

pub returns-in_default-clause-ok : goal.returns-in_default-clause-ok
returns-in_default-clause-ok c =
    let seen = ap (take c.self.inside.len) c.deref_mut.ensures.value ∙ c.self.view_is in
    let same = slice-kept c.self.inside.symbols.len c.self.inside.len _ _ _ _ c.deref_mut.ensures.value c.deref_mut.ensures.len c.write_applied.ensures.count seen c.write_applied.ensures.kept in
    rw same at c.add_growing.ensures.ok

pub returns-clause-ok : goal.returns-clause-ok
returns-clause-ok c =
    let seen = ap (take c.self.inside.len) c.deref_mut.ensures.value ∙ c.self.view_is in
    let w = slice-filled c.self.inside.symbols.len _ c.in-Some.end _ _ _ _ c.args.images.now c.args.expr.now c.deref_mut.ensures.value c.deref_mut.ensures.len c.write_applied.ensures.count seen c.in-Some.ensures.some in
    (w.0, omega (arith, w.1, c.in-Some.ensures.within))
