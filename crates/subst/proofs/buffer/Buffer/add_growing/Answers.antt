use Rattle.frame.specs.Substitution.{code_apply}
use Rattle.subst.proofs.Words.{◌≡◌, length, take, arith, length-take-le, refl, ◌∙◌, ap}
use Rattle.subst.specs.SymbolRanges.{images_at}
use Rattle.subst.proofs.CopyLemmas.{slice-filled, whole}
use Rattle.subst.proofs.buffer.Buffer.add_growing.Goals as goal

pub returns-in_default-clause-ok : goal.returns-in_default-clause-ok
returns-in_default-clause-ok c = let heavy = rw c.as_slice.ensures.symbols at c.in_default.ensures.none in (refl, heavy)

pub returns-clause-ok : goal.returns-clause-ok
returns-clause-ok c =
    let w = slice-filled c.make_room.new.buffer.len c.self.inside.len c.in-Some-write_applied.end _ _ _ _ c.args.images.now c.args.expr.now c.deref_mut.ensures.value c.deref_mut.ensures.len c.write_applied.ensures.count
    (ap (take c.self.inside.len) c.deref_mut.ensures.value ∙ (c.make_room.ensures.same ∙ c.self.view_is)) c.in-Some-write_applied.ensures.some in
    let light = rw c.as_slice.ensures.symbols at c.in-Some.ensures.some in
    (w.0, omega (arith, light.0, light.1))

pub invariant_of-self-2 : goal.invariant_of-self-2
invariant_of-self-2 c =
    let w = slice-filled c.make_room.new.buffer.len c.self.inside.len c.in-Some-write_applied.end _ _ _ _ c.args.images.now c.args.expr.now c.deref_mut.ensures.value c.deref_mut.ensures.len c.write_applied.ensures.count
    (ap (take c.self.inside.len) c.deref_mut.ensures.value ∙ (c.make_room.ensures.same ∙ c.self.view_is)) c.in-Some-write_applied.ensures.some in
    let light = rw c.as_slice.ensures.symbols at c.in-Some.ensures.some in
    let inside = c.in-Some-write_applied.ensures.some.inside in
    let size = ap length (whole c.make_room.new.buffer.len _ _ c.make_room.new.buffer.items c.deref_mut.ensures.value c.deref_mut.ensures.len c.write_applied.ensures.count) in
    let long : length (take c.self.inside.len c.self.inside.symbols.items) ≡ length c.args.self.now = ap length c.self.view_is in
    (omega (arith, size, inside), omega (arith, w.1, light.0, light.1, c.requires.bound, long, length-take-le c.self.inside.len c.self.inside.symbols.items c.self.invariant.0))

pub unreachable-requires : goal.unreachable-requires
unreachable-requires c =
    let seen = ap (take c.self.inside.len) c.deref_mut.ensures.value ∙ (c.in_ok-make_room.ensures.same ∙ c.self.view_is) in
    let same = ap (λ x. length (code_apply (images_at x c.args.images.now) c.args.expr.now)) seen in
    let items = ap length c.deref_mut.ensures.value in
    let light = rw c.as_slice.ensures.symbols at c.in-Some.ensures.some in
    omega (arith, same, items, light.0, c.in_ok-make_room.ensures.room, c.in_default-write_applied.ensures.none)
