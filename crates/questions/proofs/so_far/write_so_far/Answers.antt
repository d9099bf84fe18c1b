use Rattle.std.proofs.Common.{◌∙◌, ap, refl, sym}
use Rattle.mm_read.specs.declared.stmt.Stmt.{Stmt}
use Rattle.mm_read.specs.declared.stmt.Stmt.TheVariants.{Prove}
use Rattle.scope.specs.Active.{bare, bares}
use Rattle.questions.proofs.so_far.write_so_far.Goals as goal
use Rattle.verify.proofs.RightLemmas.{provable-bare}
use Rattle.verify.specs.Right.{IsProvable}

pub write_steps-requires : goal.write_steps-requires
write_steps-requires g c =
    let t = c.in-Some.theorem in
    let s : Stmt = Prove t.label.now t.expr.now t.proof.now in
    let p : IsProvable c.statements-statements.result.now c.in_ok-at.at s = record { stands = c.in-Some.ensures; provable = refl } in (
      bare s,
      provable-bare c.statements-statements.result.now c.frames-frames.result.now.statements c.in_ok-at.at s (c.frames-frames.ensures ∙ sym (ap bares c.statements-statements.ensures.same)) p,
    )
