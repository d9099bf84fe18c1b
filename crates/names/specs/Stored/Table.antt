-- Names by code, and the table in which their codes are found. No public clause cites it.
use Rattle.std.specs.Prelude.{◌≡◌, ◌≢◌, ◌⊎◌, ℕ, ◌+◌, ◌-◌, ◌*◌, ◌/◌, ◌%◌, ◌^◌, ◌<◌, List, length, Some, get_or, slice_get, bit_and}
use Rattle.mm_lex.specs.Alphabet.{Name}
use Rattle.names.specs.Codes.{name_at}
use Rattle.names.specs.declared.table.Slot.{Slot}
use Rattle.names.specs.declared.table.TheConstants.{NO_NAME, MAX_PROBES, HALVES}
use Rattle.names.specs.declared.keys.TheConstants.{IN_OVERFLOW}
use Rattle.names.specs.declared.name_keys.NameKeys.{NameKeys}
use Rattle.names.specs.declared.overflow.Overflow.{Overflow}
use Rattle.names.specs.Stored.Keys.{AreBytes, scrambled, key_of}
use Rattle.names.specs.Stored.Overflow.{code_in_overflow}

-- the lower half of a key
abbrev pub half_of : ℕ → ℕ
half_of key = key % HALVES

-- the slot of a name with this key
abbrev pub slot_of : ℕ → ℕ → Slot
slot_of key code = record { half = half_of key; code = code }

-- the index of the slot that a step probes, by the key and the table's length
abbrev pub slot_index_of : ℕ → ℕ → ℕ → ℕ
slot_index_of key step len = bit_and ((scrambled key + step * (step + 1) / 2) % 2 ^ 64) (len - 1)

-- s is the slot that this step of the search for a key probes
abbrev pub IsProbedSlot : List Slot → ℕ → ℕ → Slot → Type 0
IsProbedSlot slots key step s = slice_get slots (slot_index_of key step (length slots)) ≡ Some s

-- the slot that a step probes is taken
abbrev pub IsTaken : List Slot → ℕ → ℕ → Type 0
IsTaken slots key step = (s : Slot) → IsProbedSlot slots key step s → s.code ≢ NO_NAME

-- the steps of a key reach the slot of this code before any free slot
pub record IsReachable (slots : List Slot) (key code : ℕ) : Type 0 where
  pub step : ℕ
  pub within : step < length slots
  pub near : step < MAX_PROBES
  pub there : IsProbedSlot slots key step (slot_of key code)
  pub before : (i : ℕ) → i < step → IsTaken slots key i

-- all slots are free
abbrev pub AreUnused : List Slot → Type 0
AreUnused slots = (i : ℕ) (s : Slot) → slice_get slots i ≡ Some s → s.code ≡ NO_NAME

-- the key of the name x is stored by its code k, or the name is in the overflow
pub record IsNameKey (a : NameKeys) (x : Name) (k : ℕ) : Type 0 where
  pub there : k < length a.keys.items
  pub bytes : AreBytes x
  pub key : get_or a.keys.items k 0 ≢ IN_OVERFLOW → get_or a.keys.items k 0 ≡ key_of x
  pub in_overflow : get_or a.keys.items k 0 ≡ IN_OVERFLOW → code_in_overflow a.overflow x ≡ Some k

-- each name in the list has the key that `IsNameKey` demands
abbrev pub AreNameKeys : NameKeys → List Name → Type 0
AreNameKeys a names = (k : ℕ) → k < length names → IsNameKey a (name_at names k) k

-- each code that has `IN_OVERFLOW` in the place of its key in `a` has it in `b` too
abbrev pub OverflowGrows : NameKeys → NameKeys → Type 0
OverflowGrows a b = (k : ℕ) → get_or b.keys.items k 0 ≢ IN_OVERFLOW → get_or a.keys.items k 0 ≢ IN_OVERFLOW

-- each of the first n names that is not in the overflow is in the table
abbrev pub AreReachable : ℕ → List Slot → NameKeys → List Name → Type 0
AreReachable n slots a names = (k : ℕ) → k < n → get_or a.keys.items k 0 ≢ IN_OVERFLOW → IsReachable slots (key_of (name_at names k)) k

-- each name is in the table or in the overflow
abbrev pub AreFound : List Slot → Overflow → List Name → Type 0
AreFound slots a names = (k : ℕ) → k < length names → IsReachable slots (key_of (name_at names k)) k ⊎ (code_in_overflow a (name_at names k) ≡ Some k)

-- the slots and the overflow are those of these names
pub record IsTable (slots : List Slot) (a : NameKeys) (names : List Name) : Type 0 where
  pub name_keys : AreNameKeys a names
  pub reachable : AreReachable (length names) slots a names

-- `at` is the index of the first free slot that the steps of a key probe
pub record IsFirstFreeSlot (slots : List Slot) (key at : ℕ) : Type 0 where
  pub step : ℕ
  pub within : step < length slots
  pub near : step < MAX_PROBES
  pub index : slot_index_of key step (length slots) ≡ at
  pub inside : at < length slots
  pub free : (s : Slot) → slice_get slots at ≡ Some s → s.code ≡ NO_NAME
  pub before : (i : ℕ) → i < step → IsTaken slots key i

-- the slot that a step probes is taken by another name
abbrev pub IsPassed : List Slot → List Name → Name → ℕ → ℕ → Type 0
IsPassed slots names name key step = (s : Slot) → IsProbedSlot slots key step s → (s.code ≢ NO_NAME) × (s.half ≡ half_of key → s.code < length names → name_at names s.code ≢ name)
