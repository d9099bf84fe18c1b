use Rattle.std.proofs.Common.{◌+◌, ◌∙◌, ap, refl, sym}
use Rattle.mm_read.specs.declared.stmt.Stmt.{Stmt}
use Rattle.mm_read.specs.declared.stmt.Stmt.TheVariants.{Prove}
use Rattle.scope.specs.Active.{bare, bares}
use Rattle.questions.proofs.works.proof_works.Goals as goal
use Rattle.verify.proofs.RightLemmas.{provable-bare}
use Rattle.verify.specs.Right.{IsProvable}

pub prove-requires : goal.prove-requires
prove-requires c =
    let t = c.in-Some.theorem in
    let s : Stmt = Prove t.label.now t.expr.now t.proof.now in
    let p : IsProvable c.statements-statements.result.now (c.loop-index.index + 1) s = record { stands = c.in-Some.ensures; provable = refl } in
    record { provable = (bare s, provable-bare c.statements-statements.result.now c.frames.result.now.statements (c.loop-index.index + 1) s (c.frames.ensures.same ∙ sym (ap bares c.statements-statements.ensures.statements)) p) }
