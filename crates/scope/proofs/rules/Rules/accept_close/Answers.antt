use Rattle.scope.proofs.Words.{◌≡◌, ◌∙◌, ap, sym, ◌++◌, ◌∷◌, [], None, refl, length, vec_len, rules, ◌≤◌, arith, bare, broken_rule}
use Rattle.mm_read.specs.declared.stmt.Stmt.TheVariants as shape
use Rattle.scope.proofs.ActiveLemmas.{left_open}
use Rattle.scope.proofs.BlocksLemmas.{length-blocks}
use Rattle.scope.proofs.StackFollows.{kept-close, some_open}
use Rattle.scope.proofs.LegalLemmas.{legal-close}
use Rattle.scope.proofs.AcceptLemmas.{same-kept}
use Rattle.scope.proofs.rules.Rules.accept_close.Goals as goal

pub invariant_of-self : goal.invariant_of-self
invariant_of-self c =
    let a = c.self.inside in let S = a.accepted.statements in
    let legal : broken_rule S shape.Close ≡ None = ap (λ v. broken_rule v.statements shape.Close) c.self.view_is ∙ (ap (broken_rule c.args.self.now.statements) (sym c.requires.close) ∙ c.requires.legal) in
    same-kept (sym (c.after-self-inside.ensures ∙ ap (λ s. S ++ bare s ∷ []) c.requires.close)) (sym c.truncate.ensures) (sym c.truncate-in-Some.ensures) refl refl
    (kept-close S a.marked.statements a.variables a.typed a.frame_statement_count a.blocks.items c.pop.new.self.items a.mark c.in-Some.heights (legal-close S legal) c.in-Some.ensures.items c.self.invariant)

pub unreachable-requires : goal.unreachable-requires
unreachable-requires c =
    let a = c.self.inside in let S = a.accepted.statements in
    let legal : broken_rule S shape.Close ≡ None = ap (λ v. broken_rule v.statements shape.Close) c.self.view_is ∙ (ap (broken_rule c.args.self.now.statements) (sym c.requires.close) ∙ c.requires.legal) in
    let some : 1 ≤ left_open S = some_open S c.self.invariant.never_closes_unopened (legal-close S legal) in
    let size : vec_len a.blocks ≡ length a.blocks.items = search rules in
    let count : length a.blocks.items ≡ left_open S = ap length c.self.invariant.blocks_are ∙ length-blocks [] 1 S in
    let none = c.in-None.ensures.cases in
    omega arith
