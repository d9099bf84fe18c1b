-- The effect of one item on results of numbers, stated over the names that they stand for.
-- Metamath, 4.2.6 and appendix B; `Machine` defines the same over names.
-- The program knows only the numbers of symbols, here called codes; each has a name.
use Rattle.std.specs.Prelude.{◌≡◌, ℕ, ◌<◌, Bool, true, false, List, length, map, Some}
use Rattle.verify.specs.Words.{Name, Stmt, Database, CodeImages, images_of_names, are_groups_disjoint, mandatory_groups, before, AllBelow, Item, Cite, decode, HasLegalProperties, HasAssertion, AssertionView, IsViewOf, stmt_at}
use Rattle.verify.specs.declared.label_table.LabelEntry.{LabelEntry}
use Rattle.verify.specs.LabelTable.{AreEntries, IsEntry}
use Rattle.verify.specs.Machine.{Results, State, RunsItem}
use Rattle.verify.specs.ResultPlaces.{HeldResults}
use Rattle.verify.specs.Right.{weight_limit}
use Rattle.verify.specs.declared.citation.ProofContext.{ProofContext}

-- the results that the codes stand for
abbrev pub named : List Name → Results ℕ → State
named names st = record { stack = map (decode names) st.stack; saved = map (decode names) st.saved; weight = st.weight }

-- each code has a name
pub record AreNamed (names : List Name) (st : Results ℕ) : Type 0 where
  pub stack_named : AllBelow (length names) st.stack
  pub saved_named : AllBelow (length names) st.saved

-- the item was done, or it cannot be done within the limit
abbrev pub RunsItemByNumber : Bool → Database → ℕ → List Name → Item → Results ℕ → Results ℕ → Type 0
RunsItemByNumber true S at names item old new = RunsItem S at (named names old) item (named names new) × AreNamed names new
RunsItemByNumber false S at names item old new = (next : State) → RunsItem S at (named names old) item next → weight_limit < next.weight

-- a label with this meaning was cited, or it cannot be cited within the limit
abbrev pub HasCited : Database → ℕ → List Name → LabelEntry → Results ℕ → Results ℕ → Bool → Type 0
HasCited S at names entry old new ok = (label : Name) → IsEntry S at label entry → RunsItemByNumber ok S at names (Cite label) old new

-- in the context of a proof, a label with this meaning was cited, or it cannot be cited within the
-- limit
abbrev pub HasCitedIn : ProofContext → LabelEntry → HeldResults → HeldResults → Bool → Type 0
HasCitedIn context entry old new ok = HasCited context.frames.now.statements context.at context.frames.now.names entry old.results new.results ok

-- in the context of a proof, the item was done, or it cannot be done within the limit
abbrev pub RunsItemIn : ProofContext → Item → HeldResults → HeldResults → Bool → Type 0
RunsItemIn context item old new ok = RunsItemByNumber ok context.frames.now.statements context.at context.frames.now.names item old.results new.results

-- ---- the requirements for running an item

-- legal statements, and the pairs that are active at the `$p`
pub record IsReady (context : ProofContext) : Type 0 where
  pub legal : HasLegalProperties context.frames.now.statements context.frames.now.names
  pub active : context.pairs.statements ≡ before context.frames.now.statements context.at
  pub names : context.pairs.names ≡ context.frames.now.names

-- besides, an earlier assertion at a, and results whose codes have names
pub record MayCite (context : ProofContext) (a : ℕ) (st : Results ℕ) : Type 0 where
  pub ready : IsReady context
  pub named : AreNamed context.frames.now.names st
  pub assertion : (s : Stmt) × HasAssertion context.frames.now.statements a s
  pub earlier : a < context.at

-- these are the parts of the assertion at a, if a statement is there
abbrev pub IsCitedView : ProofContext → ℕ → AssertionView → Type 0
IsCitedView context a c =
    (s : Stmt) → stmt_at context.frames.now.statements a ≡ Some s → IsViewOf context.frames.now.statements context.frames.now.names a s c

-- `ok` says whether the images are disjoint by the groups of the assertion at a
abbrev pub TellsDisjoint : ProofContext → ℕ → CodeImages → Bool → Type 0
TellsDisjoint context a ρ ok =
    (s : Stmt) → stmt_at context.frames.now.statements a ≡ Some s
    → ok ≡ are_groups_disjoint (before context.frames.now.statements context.at) (images_of_names context.frames.now.names ρ) (mandatory_groups (before context.frames.now.statements a) s)

-- in the context of a proof, the meaning of a label
abbrev pub IsEntryIn : ProofContext → Name → LabelEntry → Type 0
IsEntryIn context label entry = IsEntry context.frames.now.statements context.at label entry

-- in the context of a proof, the table has the meaning of each label
abbrev pub AreEntriesIn : ProofContext → List Name → List LabelEntry → Type 0
AreEntriesIn context labels table = AreEntries context.frames.now.statements context.at labels table
