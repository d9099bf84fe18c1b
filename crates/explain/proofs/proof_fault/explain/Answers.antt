use Rattle.std.proofs.Common.{◌≡◌, ℕ, true, false, sym, ◌∙◌, ap, true≢false}
use Rattle.std.specs.Prelude.{Some, None}
use Rattle.explain.proofs.proof_fault.explain.Goals as goal
use Rattle.verify.specs.Counted.{HasCountedAnswer}
use Rattle.verify.specs.Metered.{Metered, is_over, with_work}
use Rattle.verify.specs.declared.answer.Answer.TheVariants.{TooCostly}

-- no count is past a limit that is not there
never-costly : (m : Metered) (work : ℕ) → m.limit ≡ None → HasCountedAnswer work m m TooCostly → ⊥
never-costly m work none past = true≢false (sym past ∙ ap (λ l. is_over l (with_work m work).count) none)

pub unreachable-requires : goal.unreachable-requires
unreachable-requires c = never-costly _ _ c.new-2.ensures.limit ((rw c.in-TooCostly.is at c.in_ok-prove.ensures.counted) c.requires.0 c.requires.1.stands)
