-- The storage of a database.
-- Internal to the code: no public clause cites it.
use Rattle.std.specs.Prelude.{◌≡◌, ℕ, ◌<◌, ◌^◌, true, List, length, map, take, slice_get, Some}
use Rattle.frame.specs.Words.{Name, Stmt, Database, stays_open, symbols_of, labels_of, LastActive, Assertion, Entry, Disj, Var, EntryHeader}
use Rattle.frame.specs.declared.storage.Storage.{Storage}
use Rattle.frame.specs.LastActive.{last_active_of}
use Rattle.frame.specs.Stored.EntryMeanings.{stmt_of, names_in, labels_in, statements_of, positions_from, AreAllLegal, AreFloatsOf}
use Rattle.frame.specs.Stored.Counts.{AreNumbered, kind_of}
use Rattle.frame.specs.Stored.Naming.{naming_of}
use Rattle.frame.specs.FrameOf.{hypotheses}
use Rattle.frame.specs.Stored.Hypotheses.{ArePartsOf, IsKeptAs}
use Rattle.frame.specs.Stored.Ends.{AreEnds}
use Rattle.frame.specs.Stored.MentionLists.{IsTableOf}
use Rattle.frame.specs.Stored.EntrySizes.{IsSizeOf}

-- the entry e, for the statement s, has the counts of the symbols and labels of the statements S,
-- which stand before it as the entries es; these use only numbers below the counts. Its parts and
-- its size are those of s
pub record IsEntryAfter (es : List Entry) (S : Database) (s : Stmt) (e : Entry) : Type 0 where
  pub numbered : AreNumbered e.symbol_count e.label_count es
  pub label_count : e.label_count ≡ length (labels_of S)
  pub name_count : e.symbol_count ≡ length (symbols_of S)
  pub parts : IsKeptAs es S s e.assertion
  pub size : IsSizeOf S s e.size

-- the lists of a storage are those of its statements
pub record AreKept (names labels : List Name) (positions : List ℕ) (entries : List Entry) (last_active : LastActive) : Type 0 where
  pub last : last_active ≡ last_active_of (map (stmt_of names labels) entries)
  pub linked : (i : ℕ) (e : Entry) → slice_get entries i ≡ Some e → e.last_active ≡ last_active_of (take i (map (stmt_of names labels) entries))
  pub stays : stays_open 0 (map (stmt_of names labels) entries) ≡ true
  pub legal : AreAllLegal (map (stmt_of names labels) entries)
  pub names_kept : names ≡ symbols_of (map (stmt_of names labels) entries)
  pub labels_kept : labels ≡ labels_of (map (stmt_of names labels) entries)
  pub positions_kept : positions ≡ positions_from 1 (map (stmt_of names labels) entries)
  pub coded : AreNumbered (length names) (length labels) entries
  pub each : (i : ℕ) (e : Entry) → slice_get entries i ≡ Some e → IsEntryAfter (take i entries) (take i (map (stmt_of names labels) entries)) (stmt_of names labels e) e
  pub few : length names < 2 ^ 31

-- the storage is that of its statements, with the tables of the `$f`, `$d` and `$v`
pub record AreStored (k : Storage) : Type 0 where
  pub kept : AreKept (names_in k) (labels_in k) k.positions.items k.entries k.last_active
  pub numbered : k.numbering ≡ naming_of (statements_of k)
  pub ended : AreEnds k.ends.items (statements_of k)
  pub floats : AreFloatsOf k.entries k.floats
  pub disjoints : IsTableOf Disj k.entries k.disjoints
  pub variables : IsTableOf Var k.entries k.variables

-- h is the header of the next statement
pub record IsEntryHeader (k : Storage) (s : Stmt) (h : EntryHeader) : Type 0 where
  pub kind : h.kind ≡ kind_of s
  pub label : h.before.label_count ≡ length (labels_in k)
  pub names : h.before.symbol_count ≡ length (names_in k)
  pub last_active : h.before.last_active ≡ k.last_active
  pub size : IsSizeOf (statements_of k) s h.size

-- the parts are kept as those of the next statement s
abbrev pub IsKeptOf : Storage → Stmt → Assertion → Type 0
IsKeptOf k s d = IsKeptAs k.entries (statements_of k) s d

-- the parts found for the statement s
abbrev pub ArePartsFor : Storage → Stmt → Assertion → Type 0
ArePartsFor k s d = ArePartsOf k.entries (statements_of k) (hypotheses (statements_of k) s) d
