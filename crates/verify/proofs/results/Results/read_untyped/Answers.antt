use Rattle.std.specs.Prelude.{OnOk}
use Rattle.verify.proofs.Words.{◌-◌, ◌∙◌, length, ap, arith, subst, images_at, top}
use Rattle.verify.proofs.ResultPlaceLemmas.{kept-read, last-within, seen_eq}
use Rattle.verify.specs.HypothesisResults.{AreGiven}
use Rattle.verify.proofs.results.Results.read_untyped.Goals as goal

pub read_tails-requires-clause-within : goal.read_tails-requires-clause-within
read_tails-requires-clause-within c =
    (length c.self.inside.symbols, rw (c.deref.ensures.value) (last-within (length c.self.inside.symbols) (c.len.result - c.len-2.result) c.self.inside.stack.items c.self.invariant.stack_within))

pub invariant_of-self : goal.invariant_of-self
invariant_of-self c =
    kept-read c.self.inside.symbols c.self.inside.images _ c.self.inside.stack.items c.self.inside.saved.items c.self.inside.weight c.self.invariant
    (c.read_tails.ensures.inside (length c.self.inside.symbols) (rw (c.deref.ensures.value) (last-within _ _ _ c.self.invariant.stack_within)))

pub returns-clause-read : goal.returns-clause-read
returns-clause-read c =
    subst (λ v. OnOk c.read_tails.result (AreGiven c.args.hypotheses.now v (images_at c.self.inside.symbols c.read_tails.new.images)))
    (seen_eq c.self.inside.symbols c.self.inside.stack.items c.deref.result.now c.args.self.now.results.stack (c.len.result - c.len-2.result) c.len-2.result c.deref.ensures.value (ap (λ v. v.results.stack) c.self.view_is) (omega (arith, c.len.ensures))
    ∙ ap (λ k. top k c.args.self.now.results.stack) c.len-2.ensures) (c.read_tails.ensures.read c.self.inside.symbols)
