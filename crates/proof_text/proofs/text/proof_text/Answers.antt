use Rattle.std.proofs.Common.{subst}
use Rattle.steps.proofs.SoundLemmas.{steps-sound}
use Rattle.steps.specs.Rows.{steps_of}
use Rattle.steps.specs.Unfolded.{last_unfolded}
use Rattle.verify.specs.Right.{Derives}
use Rattle.proof_text.specs.ProofTexts.{IsTextOf}
use Rattle.proof_text.proofs.text.proof_text.Goals as goal

pub returns-clause-text : goal.returns-clause-text
returns-clause-text c =
    let r = c.args.request.now in
    let tree = last_unfolded r.frames.now.statements (steps_of c.in_ok-table.table) in
    record {
      tree = tree;
      was = subst (λ S. Derives S r.at c.args.items.now tree) c.requires.request.same c.in_ok-table.ensures.derives;
      is_text = subst (λ t. IsTextOf r.statements.now r.at r.form t tree) c.deref.ensures.value (c.in_ok-is_right.ensures c.if-not-is_right.false);
    }

pub is_proof_text-requires-clause-distinct : goal.is_proof_text-requires-clause-distinct
is_proof_text-requires-clause-distinct c =
    let r = c.args.request.now in
    (steps-sound r.frames.now.statements r.at c.args.items.now (steps_of c.in_ok-table.table) c.in_ok-table.ensures.steps).once
