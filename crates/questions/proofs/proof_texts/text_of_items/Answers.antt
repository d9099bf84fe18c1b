use Rattle.std.proofs.Common.{ap, sym, ◌∙◌, subst}
use Rattle.scope.specs.Active.{bares}
use Rattle.verify.specs.Right.{IsProvable, IsRight}
use Rattle.questions.proofs.proof_texts.text_of_items.Goals as goal

pub proof_text-requires-clause-request : goal.proof_text-requires-clause-request
proof_text-requires-clause-request c = record {
  same = c.frames.ensures.same ∙ ap bares (sym c.statements.ensures.statements);
  stmt = c.requires.named.stmt;
  provable = subst (λ D. IsProvable D c.args.at c.requires.named.stmt) (sym c.statements.ensures.statements) c.requires.named.provable;
}

pub proof_text-requires-clause-right : goal.proof_text-requires-clause-right
proof_text-requires-clause-right c = subst (λ S. IsRight S c.args.at c.args.items.now) (sym c.frames.ensures.same) c.requires.right
