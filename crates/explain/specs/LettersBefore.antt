-- Letters of a compressed proof read up to one of them, for the private functions.
-- Source: Metamath, appendix B.
-- This follows how the code reads; `Breaks` states the faults that it finds.
use Rattle.std.specs.Prelude.{◌≡◌, ◌≢◌, ℕ, zero, suc, ◌+◌, ◌*◌, ◌<◌, ◌≤◌, IsTrue, IsFalse, List, [], ◌∷◌, ◌++◌, length}
use Rattle.explain.specs.Words.{list_all, Name, is_leading, number_after, before_rest, numbers_from, starts_with_mark}

-- the number of marks among the numbers that letters write; a mark is the number 0
abbrev pub zeros : List ℕ → ℕ
zeros [] = 0
zeros (zero ∷ numbers) = suc (zeros numbers)
zeros (suc n ∷ numbers) = zeros numbers

-- the letters before an index are whole letter groups and marks up to `begin`, then letters U to Y
-- with the value `digits` (U is 1, Y is 5, in base 5 without zero)
pub record IsReadTo (label_count : ℕ) (letters : List ℕ) (index limit digits begin : ℕ) : Type 0 where
  pub numbers : List ℕ
  pub front : List ℕ
  pub begun : List ℕ
  pub rest : List ℕ
  pub whole : letters ≡ front ++ (begun ++ rest)
  pub at_begin : length front ≡ begin
  pub at_index : length front + length begun ≡ index
  pub starts : IsFalse (starts_with_mark letters)
  pub reads : (text : List ℕ) → numbers_from label_count 0 (front ++ text) ≡ before_rest numbers (numbers_from limit 0 text)
  pub reads_begun : (text : List ℕ) → numbers_from limit 0 (begun ++ text) ≡ numbers_from limit digits text
  pub counts_begun : (word : Name) → number_after 0 (begun ++ word) ≡ number_after digits word
  pub firsts : IsTrue (list_all is_leading begun)
  pub zero_digits : digits ≡ 0 → begun ≡ []
  pub none_begun : begun ≡ [] → digits ≡ 0
  pub limit_is : limit ≡ label_count + zeros numbers
  pub few : zeros numbers ≤ index
  pub small : 20 * digits ≤ limit
  pub room : digits ≢ 0 → 20 * digits < limit
