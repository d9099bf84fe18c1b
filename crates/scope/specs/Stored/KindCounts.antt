-- Kinds with the count of the symbols before each, and the indexes of the symbols and of the
-- labels. No public clause cites it.
use Rattle.std.specs.Prelude.{◌≡◌, ℕ, ◌+◌, Bool, List, [], ◌∷◌, map, length, if◌then◌else◌}
use Rattle.mm_lex.specs.Alphabet.{Name}
use Rattle.scope.specs.Kinds.{is_symbol_kind, is_label_kind}
use Rattle.scope.specs.declared.numbering.NameKind.{NameKind}
use Rattle.scope.specs.declared.numbering.CountedKind.{CountedKind}

abbrev pub kinds_of : List CountedKind → List NameKind
kinds_of entries = map (λ e. e.kind) entries

-- the count of the symbols up to and including an entry
abbrev pub count_after : CountedKind → ℕ
count_after e = if is_symbol_kind e.kind then e.earlier_symbols + 1 else e.earlier_symbols

-- each has the count of the symbols before it; there are n before the first
abbrev pub AreCounted : ℕ → List CountedKind → Type 0
AreCounted n [] = Unit {0}
AreCounted n (e ∷ entries) = (e.earlier_symbols ≡ n) × AreCounted (count_after e) entries

-- the indexes of the entries whose kind passes the test, if the first entry has the index n
abbrev pub indexes_where : (NameKind → Bool) → ℕ → List CountedKind → List ℕ
indexes_where test n [] = []
indexes_where test n (e ∷ entries) =
    if test e.kind then n ∷ indexes_where test (n + 1) entries else indexes_where test (n + 1) entries

-- an entry for each name, and the indexes of the symbols and of the labels
pub record IsCounted (names : List Name) (entries : List CountedKind) (symbols labels : List ℕ) : Type 0 where
  pub same : length entries ≡ length names
  pub counted : AreCounted 0 entries
  pub symbols_are : symbols ≡ indexes_where is_symbol_kind 0 entries
  pub labels_are : labels ≡ indexes_where is_label_kind 0 entries
