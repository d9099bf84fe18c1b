-- The pages of a promise: its reports are sent in pages of 256.
-- Source: this project's choice, for Lamport, Paxos Made Simple, section 3, where one promise
-- serves all instances.
-- The code stores the received pages by sender and index. Here a list is cut into pages, and
-- received pages are joined.
use Rattle.std.specs.Prelude.{ℕ, zero, suc, Bool, not, nat_lt, List, [], ◌∷◌, ◌++◌, Option, Some, None}
use Rattle.synod.specs.Words.{front_of}

abbrev pub onto_first : {T : Type 0} → T → List (List T) → List (List T)
onto_first x [] = (x ∷ []) ∷ []
onto_first x (page ∷ pages) = (x ∷ page) ∷ pages

-- the list cut after its first `left` elements, and then after each further 256
abbrev pub cut_after : {T : Type 0} → ℕ → List T → List (List T)
cut_after left [] = [] ∷ []
cut_after (suc left) (x ∷ xs) = onto_first x (cut_after left xs)
cut_after zero (x ∷ xs) = [] ∷ onto_first x (cut_after 255 xs)

-- the list in pages of 256 elements, of which the last may have fewer; an empty list is one empty
-- page
abbrev pub pages_of : {T : Type 0} → List T → List (List T)
pages_of xs = cut_after 256 xs

-- whether the first `count` pages are received
abbrev pub are_received : {T : Type 0} → List (Option (List T)) → ℕ → Bool
are_received pages count = not (nat_lt (front_of pages) count)

-- the contents of the first `count` pages
abbrev pub joined_pages : {T : Type 0} → List (Option (List T)) → ℕ → List T
joined_pages pages zero = []
joined_pages [] (suc count) = []
joined_pages (None ∷ pages) (suc count) = joined_pages pages count
joined_pages (Some page ∷ pages) (suc count) = page ++ joined_pages pages count
