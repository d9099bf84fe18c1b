-- Names by code: the code of a name is the index of its first occurrence in a list of names.
-- Source: this project's choice.
-- The implementation finds a name in a hash table, by its key; contracts see the list of names.
use Rattle.std.specs.Prelude.{◌≡◌, ℕ, zero, suc, true, false, IsTrue, nat_lt, List, [], ◌∷◌, ◌++◌, length, map, position, Option, if◌then◌else◌}
use Rattle.std.specs.List.{list_all, position_or_len}
use Rattle.mm_lex.specs.Alphabet.{Name, name_eq, has_name}

-- the name of a code, or the empty name past the end
abbrev pub name_at : List Name → ℕ → Name
name_at [] n = []
name_at (x ∷ names) zero = x
name_at (x ∷ names) (suc n) = name_at names n

-- the names of these codes
abbrev pub decode : List Name → List ℕ → List Name
decode names codes = map (name_at names) codes

-- each of these numbers is the code of a name
abbrev pub AreCodes : List Name → List ℕ → Type 0
AreCodes names codes = IsTrue (list_all (λ n. nat_lt n (length names)) codes)

-- the code of a name, or `None` if it has none
abbrev pub code_of : List Name → Name → Option ℕ
code_of names x = position (name_eq x) names

-- the names, with x appended if it is not among them
abbrev pub with_name : List Name → Name → List Name
with_name names x = if has_name x names then names else names ++ x ∷ []

-- the same for each of the names xs in turn
abbrev pub with_names : List Name → List Name → List Name
with_names names [] = names
with_names names (x ∷ xs) = with_names (with_name names x) xs

-- the names are distinct
abbrev pub AreDistinct : List Name → Type 0
AreDistinct [] = Unit {0}
AreDistinct (x ∷ names) = (has_name x names ≡ false) × AreDistinct names

-- the code of a name, or the number of names if it has none
abbrev pub code_or_len : List Name → Name → ℕ
code_or_len names x = position_or_len (name_eq x) names

-- the same for each of the names xs
abbrev pub codes_or_len : List Name → List Name → List ℕ
codes_or_len names xs = map (code_or_len names) xs

-- each of the names xs has a code in the list `names`
abbrev pub HaveCodes : List Name → List Name → Type 0
HaveCodes names xs = (x : Name) → has_name x xs ≡ true → has_name x names ≡ true
