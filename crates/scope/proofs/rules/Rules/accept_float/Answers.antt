use Rattle.scope.proofs.Words.{◌≡◌, ◌∙◌, ap, sym, subst, arith, length, get_or, ◌++◌, ◌∷◌, [], ◌==◌, None, refl, List, ℕ, list_any, Name, Database, Stmt, Accepted, bare, broken_rule, code_or_len, AreVariableNumbers, symbols_of, symbols_after}
use Rattle.mm_read.specs.declared.stmt.Stmt.TheVariants as shape
use Rattle.scope.proofs.FrameStatementLemmas.{frame_statements-fewer}
use Rattle.scope.proofs.AcceptLemmas.{same-kept, accept-float, float-apart, float-number}
use Rattle.scope.proofs.rules.Rules.accept_float.Goals as goal

-- the numbers of the two symbols of the `$f`
numbers_are : (S : Database) (s : Stmt) (l k v : Name) (numbers : List ℕ) → s ≡ shape.Float l k v → AreVariableNumbers (symbols_after S s) s numbers → (a : ℕ) × (b : ℕ) × (numbers ≡ a ∷ b ∷ []) × (code_or_len (symbols_of S) v ≡ b)
numbers_are S s l k v numbers is are = float-number S l k v numbers (subst (λ (s : Stmt). AreVariableNumbers (symbols_after S s) s numbers) is are)

pub second-number-requires : goal.second-number-requires
second-number-requires c =
    let f = c.requires.float in
    let two = ap length (numbers_are c.args.self.now.statements c.args.stmt.now f.0 f.1 f.2 c.args.numbers.now f.3 c.requires.numbers).2 in
    omega (arith, two)

pub push-requires : goal.push-requires
push-requires c =
    let a = c.self.inside in let S = a.accepted.statements in let f = c.requires.float in
    let legal : broken_rule S (shape.Float f.0 f.1 f.2) ≡ None = ap (λ v. broken_rule v.statements (shape.Float f.0 f.1 f.2)) c.self.view_is ∙ (ap (broken_rule c.args.self.now.statements) (sym f.3) ∙ c.requires.legal) in
    let n = numbers_are S c.args.stmt.now f.0 f.1 f.2 c.args.numbers.now f.3 (subst (λ (v : Accepted). AreVariableNumbers (symbols_after v.statements c.args.stmt.now) c.args.stmt.now c.args.numbers.now) (sym c.self.view_is) c.requires.numbers) in
    ap (λ i. list_any (λ n. n == i) a.typed) (c.second-number.ensures ∙ (ap (λ ns. get_or ns 1 0) n.2 ∙ sym n.3)) ∙ float-apart S a.marked.statements a.variables a.typed a.frame_statement_count a.blocks.items a.mark c.self.invariant f.0 f.1 f.2 legal

pub overflow_add-self : goal.overflow_add-self
overflow_add-self c =
    let few = frame_statements-fewer c.self.inside.accepted.statements in
    let is = c.self.invariant.frame_statement_count_is in
    let same = ap (λ v. length v.statements) c.self.view_is in
    let room = c.requires.room in
    omega (arith, few, is, same, room)

pub invariant_of-self-2 : goal.invariant_of-self-2
invariant_of-self-2 c =
    let a = c.self.inside in let S = a.accepted.statements in let f = c.requires.float in
    let legal : broken_rule S (shape.Float f.0 f.1 f.2) ≡ None = ap (λ v. broken_rule v.statements (shape.Float f.0 f.1 f.2)) c.self.view_is ∙ (ap (broken_rule c.args.self.now.statements) (sym f.3) ∙ c.requires.legal) in
    let n = numbers_are S c.args.stmt.now f.0 f.1 f.2 c.args.numbers.now f.3 (subst (λ (v : Accepted). AreVariableNumbers (symbols_after v.statements c.args.stmt.now) c.args.stmt.now c.args.numbers.now) (sym c.self.view_is) c.requires.numbers) in
    same-kept (sym (c.after-self-inside.ensures ∙ ap (λ s. S ++ bare s ∷ []) f.3)) refl (sym (c.in_ok-push.ensures.ok ∙ ap (λ i. a.typed ++ i ∷ []) (c.second-number.ensures ∙ (ap (λ ns. get_or ns 1 0) n.2 ∙ sym n.3)))) refl refl
    (accept-float S a.marked.statements a.variables a.typed a.frame_statement_count a.blocks.items a.mark c.self.invariant f.0 f.1 f.2 legal)
