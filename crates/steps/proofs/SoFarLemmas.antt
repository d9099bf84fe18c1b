-- What a listener that follows a run has at its end.
use Rattle.steps.proofs.Words.{◌≡◌, ℕ, List, length, take, ap, sym, subst, arith, slice_get_within, Database, Item, AreRows}
use Rattle.frame.specs.Parts.{Numbered}
use Rattle.verify.specs.ResultPlaces.{HeldResults}
use Rattle.verify.specs.Walk.{walk}
use Rattle.verify.proofs.Words.{take_all}
use Rattle.steps.specs.Rows.{Row, steps_of}
use Rattle.steps.specs.SoFar.{AreStepsSoFar, IsDoneUpTo}
use Rattle.steps.specs.Stored.Drafted.{IsDraftOf, progress_of, rows_of}
use Rattle.steps.specs.declared.table_draft.TableDraft.{TableDraft}

module _ (f : Numbered) (at : ℕ) (items : List Item) (held : HeldResults) (d : TableDraft) (is : IsDraftOf (walk f at items held) d) (table : List Row) (same : table ≡ rows_of held.symbols d) where
  pub steps-so-far : (stack : List ℕ) → stack ≡ d.stack.items → AreStepsSoFar f.statements at items (steps_of table) stack
  steps-so-far stack left = record { end = progress_of held.symbols d; recorded = is.recorded; same = ap steps_of (sym same); left = sym left }

  pub rows-so-far : AreRows f.statements at f.names table
  rows-so-far = subst (AreRows f.statements at f.names) (sym same) is.draft.rows

pub all-taken : (done : ℕ) (items : List Item) → done ≡ length items → items ≡ take done items
all-taken done items all = sym (take_all done items (omega (arith, all)))

-- all items were done
pub all-done : (S : Database) (at : ℕ) (items : List Item) (done : ℕ) → done ≡ length items → IsDoneUpTo S at items done
all-done S at items done all = record {
  within = omega (arith, all);
  stuck = λ item e. absurd (let less = slice_get_within items done item e in omega (arith, less, all));
}
