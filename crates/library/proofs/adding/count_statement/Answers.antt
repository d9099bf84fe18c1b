use Rattle.library.proofs.Words.{◌≡◌, ◌+◌, ◌-◌, [], ◌∷◌, ◌++◌, length, take, Some, OnOk, refl, ◌∙◌, ap, subst, arith, rules, suc, true, length-append, take-append_seam, get-last, Stmt, Axiom, Prove, Database, bare, before, stmt_at, is_assertion}
use Rattle.verify.specs.Metered.{with_work}
use Rattle.frame.specs.Sizes.{assertion_size}
use Rattle.library.specs.Work.{statement_work}
use Rattle.library.proofs.WorkLemmas.{with_work-add}
use Rattle.library.proofs.adding.count_statement.Goals as goal

-- the size of an assertion does not depend on its proof
size-work : (S : Database) (s : Stmt) → is_assertion s ≡ true → 64 + assertion_size S (bare s) ≡ statement_work S s
size-work S (Axiom label expr) h = refl
size-work S (Prove label expr proof) h = refl
size-work S s h = absurd (let e = h in cc)

last-before : (S : Database) (s : Stmt) → before (S ++ s ∷ []) (length S + 1) ≡ S
last-before S s = let same : length S + 1 - 1 ≡ length S = omega arith in ap (λ n. take n (S ++ s ∷ [])) same ∙ take-append_seam S (s ∷ [])

stands-last : (S : Database) (s : Stmt) → stmt_at (S ++ s ∷ []) (length S + 1) ≡ Some s
stands-last S s = let same : length S + 1 ≡ suc (length S) = omega arith in ap (stmt_at (S ++ s ∷ [])) same ∙ get-last S s

pub returns-in_ok-add-in-Axiom : goal.returns-in_ok-add-in-Axiom
returns-in_ok-add-in-Axiom c = λ S last.
    let F = c.args.frames.now.statements in
    let s = c.args.statement.now in
    let assertion : is_assertion s ≡ true = search rules in
    let count : c.len.result ≡ length S + 1 = c.len.ensures ∙ (ap length last ∙ length-append S (bare s ∷ [])) in
    let stands : stmt_at F c.len.result ≡ Some (bare s) = ap (stmt_at F) count ∙ (ap (λ U. stmt_at U (length S + 1)) last ∙ stands-last S (bare s)) in
    let front : before F c.len.result ≡ S = ap (before F) count ∙ (ap (λ U. before U (length S + 1)) last ∙ last-before S (bare s)) in
    let size : c.size.result ≡ assertion_size S (bare s) = c.size.ensures (bare s) stands ∙ ap (λ U. assertion_size U (bare s)) front in
    let work = size-work S s assertion in
    subst (λ k. OnOk c.add-in-Axiom.result (c.add-in-Axiom.new.self ≡ k))
    (ap (λ k. with_work k c.size.result) c.in_ok-add-in-Axiom.ensures.counted ∙ with_work-add c.args.meter.now 64 c.size.result (statement_work S s) (omega (arith, size, work)))
    c.add-in-Axiom.ensures.counted
