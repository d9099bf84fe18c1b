use Rattle.scope.proofs.Words.{◌≡◌, ◌∙◌, ap, sym, not, is_some, Bool, true, false, ◌||◌, was_label, was_symbol, kind_in}
use Rattle.scope.proofs.SortsLemmas.{fresh-kind, some_second}
use Rattle.scope.proofs.legal.RuleChecker.is_undeclared.Goals as goal

flip : (a b : Bool) → a ≡ not b → b ≡ not a
flip a true h = ap not (sym h)
flip a false h = ap not (sym h)

pub returns : goal.returns
returns c =
    flip _ _ c.is_none.ensures
    ∙ (ap not (some_second c.find.result ∙ ap is_some c.find.ensures.kind)
    ∙ (fresh-kind c.self.inside.rules.now.statements c.args.name.now (kind_in c.self.inside.names.now c.args.name.now) (c.self.invariant.kinds_match c.args.name.now)
    ∙ ap (λ v. not (was_symbol v.statements c.args.name.now || was_label v.statements c.args.name.now)) c.self.view_is))
