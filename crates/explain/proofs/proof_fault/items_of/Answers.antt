use Rattle.std.proofs.Common.{sym, ◌∙◌}
use Rattle.explain.proofs.ReadItemsLemmas.{packed-found}
use Rattle.explain.proofs.proof_fault.items_of.Goals as goal

pub returns-then-is_compressed : goal.returns-then-is_compressed
returns-then-is_compressed c =
    packed-found c.args.tokens.now c.args.mandatory.now c.packed.result c.items_or_none.result c.items_or_none.ensures.found c.packed.ensures.unfinished (sym c.is_compressed.ensures ∙ c.if-is_compressed.true) c.packed.ensures.items c.packed.ensures.malformed
