use Rattle.std.proofs.Common.{Bor, List, ◌≡◌, ◌≤◌, ◌∙◌, ◌++◌, ◌-◌, ℕ, zero, suc, ap, arith, get_or, length, refl, subst, sym, Some, slice_get}
use Rattle.std.proofs.lemmas.Option.{slice_get_read}
use Rattle.frame.specs.AtPosition.{IsPosition}
use Rattle.std.specs.Prelude.{option_map}
use Rattle.mm_read.specs.Statements.{Database}
use Rattle.mm_read.specs.declared.stmt.Stmt.{Stmt}
use Rattle.places.specs.declared.lines_and_columns.LineAndColumn.{LineAndColumn}
use Rattle.proof_pages.specs.Blocks.{block_text}
use Rattle.scope.specs.Active.{bares, stmt_at}
use Rattle.questions.proofs.shown.library_block.Goals as goal

-- the statement that is read at an index is at the position behind it
stands_at : (S T : Database) (at : ℕ) (s : Stmt) → T ≡ S → (at ≡ 0 → ⊥) → at ≤ length T → s ≡ get_or T (at - 1) s → stmt_at S at ≡ Some s
stands_at S T zero s same above within read = absurd (above refl)
stands_at S T (suc n) s same above within read =
    let before : suc n - 1 ≡ n = omega arith in
    ap (slice_get S) (sym before)
    ∙ subst (λ U. slice_get U (suc n - 1) ≡ Some s) same (slice_get_read T (length T) (suc n - 1) s refl (omega (arith, within)) read)

pub returns : goal.returns
returns c =
    let S = c.args.library.now.replica.statements in
    let T = c.statements-statements.result.now in
    let at = c.in-Some.position in
    let s = c.index-statements-position.result in
    let carried : IsPosition (bares S) c.args.label.now (Some at) = rw c.frames.ensures.same at c.in-Some.ensures in
    let stands = stands_at S T at s c.statements-statements.ensures.statements c.if-position-eq0.false (omega (arith, c.if-position-statements.false)) c.index-statements-position.is in
    let place : LineAndColumn = record { line = at; column = 1 } in
    let words = option_map (λ (d : Bor (List ℕ)). d.now) c.args.description in
    let text = c.in_ok-push_block.ensures
    ∙ (ap (λ l. l ++ block_text T at s place words) c.new-block.ensures.items
    ∙ ap (λ U. block_text U at s place words) c.statements-statements.ensures.statements) in
    (at, s, carried, stands, text)
