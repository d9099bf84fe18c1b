-- Where blocks end (Metamath, 4.2.8), kept for each `${` by its index.
-- Internal to the code: no public clause cites it.
use Rattle.std.specs.Prelude.{◌≡◌, ℕ, zero, suc, ◌+◌, ◌==◌, ◌||◌, Bool, true, nat_le, List, [], ◌∷◌, length, take, drop, get_or, slice_get, slice_set, Some}
use Rattle.frame.specs.Words.{Stmt, Database, is_open, Entry, Kind, Close}
use Rattle.mm_read.specs.declared.stmt.Stmt.TheVariants as stmt
use Rattle.frame.specs.LastActive.{last_active_of_kind}
use Rattle.frame.specs.Stored.Counts.{kind_of}

-- the position of the `$}` that ends the block of these statements, the first of which is at `at`
-- and inside d inner blocks; 0 if the block does not end
abbrev pub end_from : ℕ → ℕ → Database → ℕ
end_from d at [] = 0
end_from d at (stmt.Open ∷ S) = end_from (suc d) (at + 1) S
end_from zero at (stmt.Close ∷ S) = at
end_from (suc d) at (stmt.Close ∷ S) = end_from d (at + 1) S
end_from d at (s ∷ S) = end_from d (at + 1) S

-- the position at which the block that opened at the index b ends, or 0
abbrev pub end_of : ℕ → Database → ℕ
end_of b S = end_from 0 (b + 2) (drop (suc b) S)

-- the list has for each `${` the position at which its block ends
abbrev pub AreBlockEnds : List ℕ → Database → Type 0
AreBlockEnds ends S = (b : ℕ) (s : Stmt) → slice_get S b ≡ Some s → is_open s ≡ true → get_or ends b 0 ≡ end_of b S

-- there is an item for each statement, which for a `${` is the position at which its block ends
pub record AreEnds (ends : List ℕ) (S : Database) : Type 0 where
  pub count : length ends ≡ length S
  pub tell : AreBlockEnds ends S

-- the block that opened at the position `block` is still open at `at`; nothing ends what is outside
-- all blocks, 0
abbrev pub is_open_at : List ℕ → ℕ → ℕ → Bool
is_open_at ends zero at = true
is_open_at ends (suc b) at = get_or ends b 0 == 0 || nat_le at (get_or ends b 0)

-- a `$}` records `at` as the end of the block that opened at the position `block`
abbrev pub with_end : Kind → ℕ → ℕ → List ℕ → List ℕ
with_end Close (suc b) at ends = slice_set ends b at
with_end kind block at ends = ends

-- each entry has the kind of its statement and the block in which this is
pub record AreBlocks (entries : List Entry) (S : Database) : Type 0 where
  pub count : length entries ≡ length S
  pub kinds : (i : ℕ) (e : Entry) (s : Stmt) → slice_get entries i ≡ Some e → slice_get S i ≡ Some s → e.kind ≡ kind_of s
  pub blocks : (i : ℕ) (e : Entry) → slice_get entries i ≡ Some e → e.last_active.block ≡ last_active_of_kind is_open (take i S)
