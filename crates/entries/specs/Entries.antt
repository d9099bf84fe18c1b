-- A statement as numbers, in plain lists.
-- Source: Metamath, 4.2.6 and 4.2.7 (a citation of an assertion needs its mandatory hypotheses).
-- The crate `frame` says what the numbers denote.
-- The code keeps the lists of all statements in a few buffers.
use Rattle.std.specs.Prelude.{◌≡◌, ℕ, Bool, true, List, [], length, map, slice_get, Some}
use Rattle.entries.specs.declared.assertion_view.Hypothesis.{Hypothesis}
use Rattle.entries.specs.declared.assertion_view.AssertionView.{AssertionView}
use Rattle.entries.specs.declared.last_active.LastActive.{LastActive}
use Rattle.entries.specs.declared.kind.Kind.{Kind}
use Rattle.entries.specs.declared.entry_header.EntryHeader.{EntryHeader}
use Rattle.entries.specs.declared.parts.AssertionParts.{AssertionParts}
use Rattle.entries.specs.declared.entry_header.EntryRef.{EntryRef}
use Rattle.entries.specs.Hypotheses.{decoded_hypothesis}
use Rattle.entries.specs.Stored.Spans.{cut, AreSpansIn}

-- the parts of a statement: `hypotheses` are the positions of its hypotheses, `numbered_hypotheses`
-- each of them as a `$f` with its variable or a `$e` with its position, `typecodes` the typecode of
-- each, `groups` its mandatory pairs, as lists of variables. They are `whole` if they are all
-- mandatory hypotheses and pairs of an assertion
pub record Assertion : Type 0 where
  pub whole : Bool
  pub hypotheses : List ℕ
  pub numbered_hypotheses : List Hypothesis
  pub typecodes : List ℕ
  pub groups : List (List ℕ)

-- a statement: its kind, its size, the counts of labels and of declared symbols before it, the last
-- active statements before it, the numbers of its symbols, and its parts
pub record Entry : Type 0 where
  pub kind : Kind
  pub size : ℕ
  pub label_count : ℕ
  pub symbol_count : ℕ
  pub last_active : LastActive
  pub symbols : List ℕ
  pub assertion : Assertion

-- the parts of a statement that is appended
abbrev pub assertion_of : AssertionParts → Assertion
assertion_of p = record { whole = p.whole; hypotheses = p.hypotheses.now; numbered_hypotheses = map decoded_hypothesis p.numbered_hypotheses.now; typecodes = p.typecodes.now; groups = cut p.grouped_variables.now p.groups.now }

-- each position of a hypothesis has that hypothesis as a number, and its typecode; and the groups
-- are parts of `grouped_variables`
pub record AreShapedParts (p : AssertionParts) : Type 0 where
  pub paired : length p.numbered_hypotheses.now ≡ length p.hypotheses.now
  pub typecodes_counted : length p.typecodes.now ≡ length p.hypotheses.now
  pub grouped : AreSpansIn (length p.grouped_variables.now) p.groups.now

-- the statement with this header, these symbols and these parts
abbrev pub entry_by : EntryHeader → List ℕ → Assertion → Entry
entry_by h codes a = record { kind = h.kind; size = h.size; label_count = h.before.label_count; symbol_count = h.before.symbol_count; last_active = h.before.last_active; symbols = codes; assertion = a }

-- no parts, with this `whole`
abbrev pub no_parts : Bool → Assertion
no_parts whole = record { whole = whole; hypotheses = []; numbered_hypotheses = []; typecodes = []; groups = [] }

-- the statement that `entry` returns as x, with these parts
abbrev pub entry_from_ref : EntryRef → Assertion → Entry
entry_from_ref x a = record { kind = x.kind; size = x.size; label_count = x.before.label_count; symbol_count = x.before.symbol_count; last_active = x.before.last_active; symbols = x.symbols.now; assertion = a }

-- the parts of the statement are whole, and c has them
pub record IsWholeView (e : Entry) (c : AssertionView) : Type 0 where
  pub whole : e.assertion.whole ≡ true
  pub typecodes : c.typecodes.now ≡ e.assertion.typecodes
  pub hypotheses : c.hypotheses ≡ e.assertion.numbered_hypotheses
  pub conclusion : c.conclusion.now ≡ e.symbols
  pub pairs : c.pairs ≡ e.assertion.groups

-- x is the statement at index i, without its parts
abbrev pub IsEntry : List Entry → ℕ → EntryRef → Type 0
IsEntry es i x = (a : Assertion) × (slice_get es i ≡ Some (entry_from_ref x a))
