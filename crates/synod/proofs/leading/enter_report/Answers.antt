use Rattle.synod.proofs.Words.{◌≡◌, ℕ, ◌-◌, true, false, Some, None, refl, sym, ◌∙◌, arith, slice_index_or, option_copied}
use Rattle.synod.proofs.HighestReportsLemmas.{joined_with, highest_kept, highest_set, table_at, joined-under, joined-upto}
use Rattle.synod.proofs.leading.enter_report.Goals as goal
use Rattle.synod.proofs.leading.enter_report.Goals.{in-Some, in-None}

pub returns-then-report-first-clause-highest : goal.returns-then-report-first-clause-highest
returns-then-report-first-clause-highest g c = λ reports h. highest_kept c.args.first c.args.table.now.items reports c.args.report.now h (λ k low at. absurd (omega (arith, at)))

pub returns-then-place-len-clause-highest : goal.returns-then-place-len-clause-highest
returns-then-place-len-clause-highest g c = λ reports h. highest_kept c.args.first c.args.table.now.items reports c.args.report.now h (λ k low at. absurd (omega (arith, at, low, c.len.ensures)))

pub returns-then-is_higher-clause-highest : goal.returns-then-is_higher-clause-highest
returns-then-is_higher-clause-highest g c = λ reports h.
    let place : ℕ = c.args.report.now.slot - c.args.first in
    let at = table_at c.args.table.now.items place c.index.result.now (omega (arith, c.len.ensures)) c.index.ensures in
    let takes : joined_with (option_copied (slice_index_or c.args.table.now.items place None)) c.args.report.now ≡ Some c.args.report.now = elim c.match-index.branch [
      | in-Some w ↦ rw (at, w.in-Some.is) (joined-under w.in-Some.best.now c.args.report.now (sym w.is_below-is_higher.ensures ∙ sym w.is_higher-is ∙ c.if-is_higher.true))
      | in-None w ↦ rw (at, w.in-None.is) refl
    ] in
    highest_set c.args.first c.args.table.now.items reports c.args.report.now h place c.args.report refl (omega (arith, c.len.ensures)) (omega arith) takes

pub returns-else-is_higher-clause-highest : goal.returns-else-is_higher-clause-highest
returns-else-is_higher-clause-highest g c = λ reports h. highest_kept c.args.first c.args.table.now.items reports c.args.report.now h (λ k low slot.
    let place : ℕ = c.args.report.now.slot - c.args.first in
    let same : k ≡ place = omega (arith, slot) in
    let at = table_at c.args.table.now.items place c.index.result.now (omega (arith, c.len.ensures)) c.index.ensures in
    rw (same, at) (elim c.match-index.branch [
      | in-Some w ↦ rw w.in-Some.is (joined-upto w.in-Some.best.now c.args.report.now (sym w.is_below-is_higher.ensures ∙ sym w.is_higher-is ∙ c.if-is_higher.false))
      | in-None w ↦ let no : true ≡ false = sym w.is_higher-is ∙ c.if-is_higher.false in cc
    ]))
