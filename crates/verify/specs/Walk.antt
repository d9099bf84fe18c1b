-- A run over the items of a proof, and what a listener is told of each item.
-- Metamath, 4.2.6 and appendix B: an item cites a hypothesis or an assertion, marks the last result,
-- or recalls a marked one.
-- The code goes over the items once; the derivation and the table of a proof are made by listeners.
use Rattle.std.specs.Prelude.{◌≡◌, ℕ, suc, ◌+◌, ◌≤◌, Bool, true, false, List, [], ◌∷◌, ◌++◌, length, Some}
use Rattle.verify.specs.Words.{Name, Stmt, Database, before, hypotheses, stmt_at, Item, Cite, Recall, Mark, HasLegalProperties, Numbered, SymbolRange, symbols_in}
use Rattle.verify.specs.declared.label_table.LabelEntry.TheVariants.{Hypothesis, Assertion}
use Rattle.verify.specs.LabelTable.{IsEntry}
use Rattle.verify.specs.Machine.{Results, RunsItem}
use Rattle.verify.specs.ResultPlaces.{HeldResults}
use Rattle.verify.specs.RunsItemByNumber.{named, AreNamed}
use Rattle.verify.specs.declared.citation.ProofContext.{ProofContext}

-- the items of a proof at `at` that were done, the results, and the symbols that they are ranges of
pub record Walk : Type 0 where
  pub statements : Database
  pub at : ℕ
  pub names : List Name
  pub items : List Item
  pub results : Results ℕ
  pub symbols : List ℕ

-- the walk over these items, with these results
abbrev pub walk : Numbered → ℕ → List Item → HeldResults → Walk
walk f at items held = record { statements = f.statements; at = at; names = f.names; items = items; results = held.results; symbols = held.symbols }

-- the walk over no items
abbrev pub walk_start : Numbered → ℕ → Walk
walk_start f at = record { statements = f.statements; at = at; names = f.names; items = []; results = record { stack = []; saved = []; weight = 0 }; symbols = [] }

-- the walk over one item more
abbrev pub walk_on : Walk → Item → HeldResults → Walk
walk_on w item held = record { statements = w.statements; at = w.at; names = w.names; items = w.items ++ item ∷ []; results = held.results; symbols = held.symbols }

-- the item takes the results of the walk to these, whose symbols are appended
pub record IsDone (w : Walk) (item : Item) (held : HeldResults) : Type 0 where
  pub legal : HasLegalProperties w.statements w.names
  pub runs : RunsItem w.statements w.at (named w.names w.results) item (named w.names held.results)
  pub are_named : AreNamed w.names held.results
  pub more : List ℕ
  pub appended : held.symbols ≡ w.symbols ++ more

-- ---- what a listener is told

-- the last result is in this range
pub record IsLastRange (held : HeldResults) (range : SymbolRange) : Type 0 where
  pub ordered : range.start ≤ range.end
  pub within : range.end ≤ length held.symbols
  pub stack : List (List ℕ)
  pub last : held.results.stack ≡ stack ++ symbols_in held.symbols range ∷ []

-- the item cites the hypothesis at this position, and its result is in this range
pub record CitesHypothesis (position : ℕ) (range : SymbolRange) (w : Walk) (item : Item) (held : HeldResults) : Type 0 where
  pub label : Name
  pub cites : item ≡ Cite label
  pub entry : IsEntry w.statements w.at label (Hypothesis position)
  pub pushes : length held.results.stack ≡ suc (length w.results.stack)
  pub range_is : IsLastRange held range

-- the item cites the assertion at this position; `count` results are taken for its mandatory
-- hypotheses, and its result is in this range
pub record CitesAssertion (position count : ℕ) (range : SymbolRange) (w : Walk) (item : Item) (held : HeldResults) : Type 0 where
  pub label : Name
  pub cites : item ≡ Cite label
  pub entry : IsEntry w.statements w.at label (Assertion position)
  pub taken : (s : Stmt) → stmt_at w.statements position ≡ Some s → count ≡ length (hypotheses (before w.statements position) s)
  pub pops : count + length held.results.stack ≡ suc (length w.results.stack)
  pub range_is : IsLastRange held range

-- the item marks the last result
abbrev pub IsMark : Walk → Item → HeldResults → Type 0
IsMark w item held = item ≡ Mark

-- the item recalls the marked result at this index, from 0
abbrev pub IsRecall : ℕ → Walk → Item → HeldResults → Type 0
IsRecall index w item held = item ≡ Recall (suc index)

-- whatever item was done, if this was told of it: a listener that followed the walk before it
-- follows it after the item
abbrev pub Hears : {L : Type 0} → (Walk → L → Type 0) → (Walk → Item → HeldResults → Type 0) → L → L → Type 0
Hears {L} follows is_told old new =
    (w : Walk) (item : Item) (held : HeldResults) → IsDone w item held → is_told w item held → follows w old → follows (walk_on w item held) new

-- the item was done, and a listener that followed the walk before it follows it after the item; or
-- the item was not done, and the listener was told nothing
abbrev pub IsHeard : {L : Type 0} → Bool → (Walk → L → Type 0) → Numbered → ℕ → Item → HeldResults → HeldResults → L → L → Type 0
IsHeard true follows f at item held held' old new = (items : List Item) → follows (walk f at items held) old → follows (walk f at (items ++ item ∷ []) held') new
IsHeard false follows f at item held held' old new = new ≡ old

-- in the context of a proof, the item was done, and a listener that followed the walk follows it
-- after the item; or it was not done, and the listener was told nothing
abbrev pub IsHeardIn : {L : Type 0} → (Walk → L → Type 0) → ProofContext → Item → HeldResults → HeldResults → L → L → Bool → Type 0
IsHeardIn follows context item held held' old new ok = IsHeard ok follows context.frames.now context.at item held held' old new
