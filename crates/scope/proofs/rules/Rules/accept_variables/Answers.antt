use Rattle.scope.proofs.Words.{◌≡◌, ◌∙◌, ap, sym, subst, ◌++◌, ◌∷◌, [], None, refl, Stmt, Accepted, bare, broken_rule, AreVariableNumbers, symbols_after}
use Rattle.mm_read.specs.declared.stmt.Stmt.TheVariants as shape
use Rattle.scope.proofs.AcceptLemmas.{same-kept, accept-variables, can_push-variables}
use Rattle.scope.proofs.rules.Rules.accept_variables.Goals as goal

pub push_all-requires : goal.push_all-requires
push_all-requires c =
    let a = c.self.inside in let S = a.accepted.statements in let xs = c.requires.variables.0 in let is = c.requires.variables.1 in
    let legal : broken_rule S (shape.Var xs) ≡ None = ap (λ v. broken_rule v.statements (shape.Var xs)) c.self.view_is ∙ (ap (broken_rule c.args.self.now.statements) (sym is) ∙ c.requires.legal) in
    let numbers = subst (λ (s : Stmt). AreVariableNumbers (symbols_after S s) s c.args.numbers.now) is (subst (λ (v : Accepted). AreVariableNumbers (symbols_after v.statements c.args.stmt.now) c.args.stmt.now c.args.numbers.now) (sym c.self.view_is) c.requires.numbers) in
    can_push-variables S a.marked.statements a.variables a.typed a.frame_statement_count a.blocks.items a.mark c.self.invariant xs c.args.numbers.now legal numbers

pub invariant_of-self-2 : goal.invariant_of-self-2
invariant_of-self-2 c =
    let a = c.self.inside in let S = a.accepted.statements in let xs = c.requires.variables.0 in let is = c.requires.variables.1 in
    let numbers = subst (λ (s : Stmt). AreVariableNumbers (symbols_after S s) s c.args.numbers.now) is (subst (λ (v : Accepted). AreVariableNumbers (symbols_after v.statements c.args.stmt.now) c.args.stmt.now c.args.numbers.now) (sym c.self.view_is) c.requires.numbers) in
    same-kept (sym (c.after-self-inside.ensures ∙ ap (λ s. S ++ bare s ∷ []) is)) (sym c.in_ok-push_all.ensures.ok) refl refl refl
    (accept-variables S a.marked.statements a.variables a.typed a.frame_statement_count a.blocks.items a.mark c.self.invariant xs c.args.numbers.now numbers)
