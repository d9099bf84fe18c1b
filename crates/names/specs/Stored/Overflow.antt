-- The codes of the names in the overflow, in maps from the keys of short names and from the bytes
-- of others. No public clause cites it.
-- Source: this project's choice.
use Rattle.std.specs.Prelude.{ℕ, Option, length, nat_lt, if◌then◌else◌}
use Rattle.std.specs.BTreeMap.{get_by}
use Rattle.std.specs.Cmp.Lexicographic.{slice_cmp}
use Rattle.std.specs.Ordering.{nat_cmp}
use Rattle.mm_lex.specs.Alphabet.{Name}
use Rattle.names.specs.Stored.Keys.{key_of}
use Rattle.names.specs.declared.keys.TheConstants.{LEAST_HASHED_LEN}
use Rattle.names.specs.declared.overflow.Overflow.{Overflow}

-- the code of a name in the overflow, or `None` if it is not there
abbrev pub code_in_overflow : Overflow → Name → Option ℕ
code_in_overflow a x = if nat_lt (length x) LEAST_HASHED_LEN then get_by (nat_cmp (key_of x)) a.short else get_by (λ k. slice_cmp nat_cmp x k.items) a.long
