-- Statements in shared buffers: each has the items from where it begins up to where the next one
-- begins. So appending to the buffers changes no statement, and the buffers can be truncated where
-- a statement begins. No public clause cites it.
use Rattle.std.specs.Prelude.{◌≡◌, ℕ, ◌+◌, ◌-◌, ◌*◌, ◌/◌, ◌%◌, ◌<◌, ◌≤◌, ◌^◌, Bool, true, false, ◌||◌, List, [], ◌∷◌, ◌++◌, length, map, slice_get, slice_range, get_or, nat_lt, Option, Some, None}
use Rattle.entries.specs.declared.layout.Layout.{Layout}
use Rattle.entries.specs.declared.layout.TheConstants.{COUNTS, HALVES}
use Rattle.entries.specs.declared.entries.Stored.{Stored}
use Rattle.entries.specs.declared.statement_record.StatementRecord.{StatementRecord}
use Rattle.entries.specs.declared.entry_header.EntryHeader.{EntryHeader}
use Rattle.entries.specs.declared.buffer_part.BufferPart.{BufferPart}
use Rattle.entries.specs.declared.parts.AssertionParts.{AssertionParts}
use Rattle.entries.specs.Hypotheses.{decoded_hypothesis}
use Rattle.entries.specs.Entries.{Entry}
use Rattle.entries.specs.Stored.Spans.{cut, AreSpansIn}

-- ---- the numbers of one statement

-- the layout, from an index on, of the parts of h hypotheses, s symbols, g groups and p variables
-- of groups, for a statement of this size
abbrev pub layout_of_counts : ℕ → ℕ → ℕ → ℕ → ℕ → ℕ → Layout
layout_of_counts from h s g p size = record {
  typecodes = from;
  numbered_hypotheses = from + h;
  symbols = from + h + h;
  hypotheses = from + h + h + s;
  grouped_variables = from + h + h + s + h;
  end = from + h + h + s + h + p;
  group_count = g;
  size = size;
}

-- the layout of a statement's numbers: with parts, the first numbers are the counts of these, and
-- the halves of the size; without, all numbers are symbols
abbrev pub layout_in : Bool → List ℕ → Layout
layout_in true numbers = layout_of_counts COUNTS (get_or numbers 0 0) (get_or numbers 1 0) (get_or numbers 2 0) (get_or numbers 3 0) (get_or numbers 4 0 + get_or numbers 5 0 * HALVES)
layout_in false numbers = layout_of_counts 0 0 (length numbers) 0 0 0

-- the numbers that precede the parts of a statement of this size
abbrev pub counts_of : ℕ → AssertionParts → List ℕ
counts_of size p =
    length p.hypotheses.now ∷ length p.symbols.now ∷ length p.groups.now ∷ length p.grouped_variables.now ∷ (size % HALVES) ∷ (size / HALVES) ∷ []

-- whether a statement is stored with parts: it has a size, hypotheses or groups
abbrev pub has_parts : ℕ → AssertionParts → Bool
has_parts size p = nat_lt 0 size || nat_lt 0 (length p.hypotheses.now + length p.groups.now)

-- the numbers that a statement of this size is stored as
abbrev pub numbers_of : Bool → ℕ → AssertionParts → List ℕ
numbers_of true size p = ((((counts_of size p ++ p.typecodes.now) ++ p.numbered_hypotheses.now) ++ p.symbols.now) ++ p.hypotheses.now) ++ p.grouped_variables.now
numbers_of false size p = p.symbols.now

abbrev pub record_by : EntryHeader → Bool → Bool → ℕ → ℕ → StatementRecord
record_by h has_parts whole from groups = record { from = from; kind = h.kind; has_parts = has_parts; whole = whole; groups_from = groups; before = h.before }

-- the record of a statement with this header and these parts; its numbers begin at `from`, its
-- groups at `groups`
abbrev pub record_of : EntryHeader → AssertionParts → ℕ → ℕ → StatementRecord
record_of h p from groups = record_by h (has_parts h.size p) p.whole from groups

-- the statement that is stored as this record, these numbers in this layout, and these groups
abbrev pub entry_in : StatementRecord → List ℕ → List BufferPart → Layout → Entry
entry_in r numbers spans layout = record {
  kind = r.kind;
  size = layout.size;
  label_count = r.before.label_count;
  symbol_count = r.before.symbol_count;
  last_active = r.before.last_active;
  symbols = slice_range numbers layout.symbols layout.hypotheses;
  assertion = record {
    whole = r.whole;
    hypotheses = slice_range numbers layout.hypotheses layout.grouped_variables;
    numbered_hypotheses = map decoded_hypothesis (slice_range numbers layout.numbered_hypotheses layout.symbols);
    typecodes = slice_range numbers layout.typecodes layout.numbered_hypotheses;
    groups = cut (slice_range numbers layout.grouped_variables layout.end) spans;
  };
}

abbrev pub entry_of : StatementRecord → List ℕ → List BufferPart → Entry
entry_of r numbers spans = entry_in r numbers spans (layout_in r.has_parts numbers)

-- ---- all statements

-- where the numbers of a statement end, by the next one
abbrev pub end_by : List ℕ → Option StatementRecord → ℕ
end_by numbers None = length numbers
end_by numbers (Some next) = next.from

-- where the groups of a statement end, by the next one
abbrev pub groups_by : List BufferPart → Option StatementRecord → ℕ
groups_by groups None = length groups
groups_by groups (Some next) = next.groups_from

-- the numbers of a statement, by its record and the next one
abbrev pub numbers_by : List ℕ → StatementRecord → Option StatementRecord → List ℕ
numbers_by numbers r next = slice_range numbers r.from (end_by numbers next)

-- the groups of a statement, by its record and the next one
abbrev pub spans_by : List BufferPart → StatementRecord → Option StatementRecord → List BufferPart
spans_by groups r next = slice_range groups r.groups_from (groups_by groups next)

-- the statements that are stored as these records
abbrev pub entries_of : List ℕ → List BufferPart → List StatementRecord → List Entry
entries_of numbers groups [] = []
entries_of numbers groups (r ∷ rs) = entry_of r (numbers_by numbers r (slice_get rs 0)) (spans_by groups r (slice_get rs 0)) ∷ entries_of numbers groups rs

-- a statement's numbers are within the buffer, as many as its layout has
pub record IsPlaced (numbers : List ℕ) (r : StatementRecord) (next : Option StatementRecord) : Type 0 where
  pub from : r.from ≤ end_by numbers next
  pub end : end_by numbers next ≤ length numbers
  pub whole : (layout_in r.has_parts (numbers_by numbers r next)).end ≡ length (numbers_by numbers r next)

-- a statement's groups are as many as its layout says, and parts of its grouped variables
pub record IsGrouped (groups : List BufferPart) (r : StatementRecord) (next : Option StatementRecord) (layout : Layout) : Type 0 where
  pub count : r.groups_from + layout.group_count ≡ groups_by groups next
  pub end : groups_by groups next ≤ length groups
  pub spans : AreSpansIn (layout.end - layout.grouped_variables) (spans_by groups r next)

-- the buffers have the numbers and the groups of the statement where its record says
pub record IsKept (numbers : List ℕ) (groups : List BufferPart) (r : StatementRecord) (next : Option StatementRecord) : Type 0 where
  pub placed : IsPlaced numbers r next
  pub grouped : IsGrouped groups r next (layout_in r.has_parts (numbers_by numbers r next))

abbrev pub AreKept : List ℕ → List BufferPart → List StatementRecord → Type 0
AreKept numbers groups [] = Unit {0}
AreKept numbers groups (r ∷ rs) = IsKept numbers groups r (slice_get rs 0) × AreKept numbers groups rs

-- the buffers have those of all statements, and these have indexes of 32 bits
pub record ArePacked (numbers : List ℕ) (groups : List BufferPart) (rs : List StatementRecord) : Type 0 where
  pub kept : AreKept numbers groups rs
  pub few : length rs + 1 < 2 ^ 32

-- ---- one statement as it is read

-- the parts follow one another
pub record IsOrdered (layout : Layout) : Type 0 where
  pub typecodes : layout.typecodes ≤ layout.numbered_hypotheses
  pub numbered_hypotheses : layout.numbered_hypotheses ≤ layout.symbols
  pub symbols : layout.symbols ≤ layout.hypotheses
  pub hypotheses : layout.hypotheses ≤ layout.grouped_variables
  pub grouped_variables : layout.grouped_variables ≤ layout.end

-- `s` is the stored form of the entry found
pub record IsStored (found : Option Entry) (s : Stored) : Type 0 where
  pub ordered : IsOrdered s.layout
  pub whole : s.layout.end ≡ length s.numbers.now
  pub grouped : AreSpansIn (s.layout.end - s.layout.grouped_variables) s.groups.now
  pub entry : found ≡ Some (entry_in s.statement_record s.numbers.now s.groups.now s.layout)
