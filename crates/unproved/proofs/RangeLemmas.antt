-- Ranges that are judged without a limit.
use Rattle.std.proofs.Common.{◌≡◌, ℕ, suc, ◌+◌, ◌-◌, false, true, List, Some, Ok, sym, ◌∙◌, ap}
use Rattle.std.specs.Prelude.{None, Result, Err, IfOk}
use Rattle.library.specs.Words.{Database, Stmt}
use Rattle.mm_lex.specs.Alphabet.{Name}
use Rattle.scope.specs.Active.{before, stmt_at}
use Rattle.verify.specs.Counted.{HasCountedProof}
use Rattle.verify.specs.Metered.{Metered, is_over}
use Rattle.verify.specs.Right.{IsAnswerIfAny, IsAnswerTo}
use Rattle.verify.specs.Work.{proof_work}
use Rattle.verify.specs.declared.answer.Answer.{Answer}
use Rattle.verify.specs.declared.answer.Answer.TheVariants.{Proved, TooCostly as CostlyAnswer, Wrong as WrongAnswer}
use Rattle.verify_pool.specs.FirstStop.{IsFirstStop, work_to}
use Rattle.verify_pool.specs.declared.outcome.Outcome.{Outcome}
use Rattle.verify_pool.specs.declared.outcome.Outcome.TheVariants.{AllRight, TooCostly, Wrong}
use Rattle.unproved.specs.StatementRanges.{IsFirstUnprovedIn, IsProvedIn, wrong_index}

-- without a limit no proof is too costly
pub answered : {E : Type 0} (F : Database) (at : ℕ) (s : Stmt) (tokens : List Name) (m m' : Metered) (P : Type 0) (r : Result Answer E) → stmt_at F at ≡ Some s → m.limit ≡ None
    → IfOk r (λ answer. IsAnswerIfAny answer P) → IfOk r (HasCountedProof F at tokens m m') → IfOk r (λ answer. IsAnswerTo answer P)
answered F at s tokens m m' P (Ok Proved) stands none h counted = h
answered F at s tokens m m' P (Ok WrongAnswer) stands none h counted = h
answered F at s tokens m m' P (Ok CostlyAnswer) stands none h counted =
    let past : is_over m.limit (m.count + proof_work (before F at) s tokens) ≡ true = counted s stands in
    absurd (let e : false ≡ true = ap (λ o. is_over o (m.count + proof_work (before F at) s tokens)) (sym none) ∙ past in cc)
answered F at s tokens m m' P (Err x) stands none h counted = h

-- the first wrong job is the first unproved `$p`; without a limit no job is too costly
pub first_unproved : (S : Database) (start end : ℕ) (works : ℕ → ℕ) (m m' : Metered) (outcome : Outcome) → m.limit ≡ None
    → IsFirstStop (IsProvedIn (record { statements = S; start = start; end = end })) works (end - start) m m' outcome → IsFirstUnprovedIn S start end (wrong_index outcome)
first_unproved S start end works m m' AllRight none h = record { before = λ k less all. h.0.each k less; wrong = tt }
first_unproved S start end works m m' (Wrong i) none h = record { before = λ k less all. h.0.before.each k all; wrong = (h.0.stands, h.0.wrong) }
first_unproved S start end works m m' (TooCostly i) none h =
    let past : is_over m.limit (m.count + work_to works (suc i)) ≡ true = h.past in
    absurd (let e : false ≡ true = ap (λ o. is_over o (m.count + work_to works (suc i))) (sym none) ∙ past in cc)
