use Rattle.std.proofs.Common.{◌∙◌, ap, refl, sym}
use Rattle.mm_read.specs.declared.stmt.Stmt.{Stmt}
use Rattle.mm_read.specs.declared.stmt.Stmt.TheVariants.{Prove}
use Rattle.scope.specs.Active.{bare, bares}
use Rattle.explanation.proofs.proof.explain_in_database.Goals as goal
use Rattle.verify.proofs.RightLemmas.{provable-bare}
use Rattle.verify.specs.Right.{IsProvable}

pub explain_theorem-requires : goal.explain_theorem-requires
explain_theorem-requires c =
    let t = c.in-Some.theorem in
    let s : Stmt = Prove t.label.now t.expr.now t.proof.now in
    let p : IsProvable c.statements.result.now t.at s = record { stands = c.in-Some.ensures.parts; provable = refl } in (
      bare s,
      provable-bare c.statements.result.now c.frames.result.now.statements t.at s (c.frames.ensures ∙ sym (ap bares c.statements.ensures.same)) p,
    )
