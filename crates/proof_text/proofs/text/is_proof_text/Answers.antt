use Rattle.std.proofs.Common.{◌≡◌, length, arith}
use Rattle.std.proofs.lemmas.Result.{IfOk-weaker}
use Rattle.proof_text.proofs.RequestLemmas.{stands-bare}
use Rattle.proof_text.proofs.TextLemmas.{text-of}
use Rattle.proof_text.proofs.text.is_proof_text.Goals as goal

pub is_rewritten-requires-clause-old : goal.is_rewritten-requires-clause-old
is_rewritten-requires-clause-old c = stands-bare c.args.request.now c.requires.request c.statement_of.result.now c.statement_of.ensures.stands

pub returns : goal.returns
returns c =
    let one : length c.in-Some.statements.items ≡ 1 = omega arith in
    IfOk-weaker c.is_rewritten.result _ _
    (λ same w yes. text-of c.args.request.now.statements.now c.args.request.now.frames.now.statements c.args.request.now.at c.args.request.now.form c.args.text.now _ c.in-Some.statements.items c.statement_of.result.now c.index-new.result.now
    c.requires.request.same c.statement_of.ensures.stands (rw c.in-Some.is at c.in_ok-statements.ensures) one c.index-new.ensures (w yes))
    c.is_rewritten.ensures
