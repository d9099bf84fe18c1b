use Rattle.std.proofs.Common.{◌∙◌, ap, refl, sym}
use Rattle.std.specs.Prelude.{option_map}
use Rattle.scope.proofs.BareLemmas.{bare-same}
use Rattle.scope.proofs.StatementPlaces.{stmt_at-bares}
use Rattle.scope.specs.Active.{bare, bares, is_assertion, stmt_at}
use Rattle.explanation.proofs.limited_library.work_of_statement.Goals as goal

pub size-requires : goal.size-requires
size-requires c =
    let s = c.in-Some._assertion.now in
    let S = c.statements.result.now in
    let at = c.args.at in (
      bare s,
      (
        ap (λ U. stmt_at U at) (c.frames.ensures ∙ sym (ap bares c.statements.ensures.same)) ∙ (stmt_at-bares S at ∙ ap (option_map bare) c.in-Some.ensures.0),
        bare-same is_assertion (λ label expr proof. refl) s ∙ c.in-Some.ensures.1,
      ),
    )
