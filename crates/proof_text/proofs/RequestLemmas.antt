-- The statement of a request.
use Rattle.std.proofs.Common.{◌≡◌, Some, true, refl, ap, ◌∙◌}
use Rattle.mm_read.specs.declared.stmt.Stmt.TheVariants.{Prove}
use Rattle.std.specs.Prelude.{option_map}
use Rattle.mm_read.specs.declared.stmt.Stmt.{Stmt}
use Rattle.scope.specs.Active.{bare, is_assertion, is_provable, stmt_at}
use Rattle.frame.specs.FrameOf.{HasAssertion}
use Rattle.scope.proofs.StatementPlaces.{stmt_at-bares}
use Rattle.verify.specs.Right.{IsProvable}
use Rattle.verify.proofs.RightLemmas.{provable-bare}
use Rattle.proof_text.specs.Requests.{IsRequest}
use Rattle.proof_text.specs.declared.request.TextRequest.{TextRequest}

-- a `$p` is an assertion
provable-assertion : (s : Stmt) → is_provable s ≡ true → is_assertion s ≡ true
provable-assertion (Prove label expr proof) h = refl
provable-assertion s h = let e = h in cc

module _ (r : TextRequest) (is : IsRequest r) where
  -- in the frames it stands without its proof
  pub stands-bare : (x : Stmt) → stmt_at r.statements.now r.at ≡ Some x → stmt_at r.frames.now.statements r.at ≡ Some (bare x)
  stands-bare x e = ap (λ U. stmt_at U r.at) is.same ∙ (stmt_at-bares r.statements.now r.at ∙ ap (option_map bare) e)

  pub provable-there : (s : Stmt) × IsProvable r.frames.now.statements r.at s
  provable-there = (bare is.stmt, provable-bare r.statements.now r.frames.now.statements r.at is.stmt is.same is.provable)

  pub assertion-there : (s : Stmt) × HasAssertion r.frames.now.statements r.at s
  assertion-there = let p = provable-bare r.statements.now r.frames.now.statements r.at is.stmt is.same is.provable in (bare is.stmt, (p.stands, provable-assertion (bare is.stmt) p.provable))
