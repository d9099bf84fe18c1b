use Rattle.explain.proofs.Words.{sym, ◌∙◌, ap, list_any, has_fault}
use Rattle.explain.specs.declared.broken_code.TokenFault.TheVariants as token_fault
use Rattle.explain.proofs.TokenLemmas.{writes-normal, not-label-normal}
use Rattle.explain.proofs.broken_code.code_break.Goals as goal

pub unreachable-requires : goal.unreachable-requires
unreachable-requires c =
    let m = c.args.mandatory.now in
    c.requires _ (writes-normal c.args.tokens.now m (sym (ap (list_any (has_fault m token_fault.Unfinished)) c.iter.ensures.words) ∙ (rw c.in_default.is at c.first_with_fault.ensures)) (sym c.is_compressed.ensures ∙ c.if-is_compressed.false)
    (sym (ap (list_any (has_fault m token_fault.NotLabel)) c.iter-2.ensures.words) ∙ c.in-None.ensures))

pub returns : goal.returns
returns c =
    let m = c.args.mandatory.now in (
      sym (ap (list_any (has_fault m token_fault.Unfinished)) c.iter.ensures.words) ∙ (rw c.in_default.is at c.first_with_fault.ensures),
      not-label-normal c.args.tokens.now m c.iter-2.result _ _ _ c.iter-2.ensures.words (sym c.is_compressed.ensures ∙ c.if-is_compressed.false) c.in-Some-first_with_fault.ensures,
    )
