-- The parts of an assertion, by numbers.
-- Internal to the code: no public clause cites it.
use Rattle.std.specs.Prelude.{ℕ, ◌-◌, ◌==◌, ◌&&◌, not, Bool, false, if◌then◌else◌, List, [], ◌∷◌, ◌++◌, map, filter, get_or, slice_get, Option, Some, None}
use Rattle.frame.specs.Words.{has_name, Stmt, Expr, Database, active, Hypothesis, Kind, Float, Entry, list_any}
use Rattle.mm_read.specs.declared.stmt.Stmt.TheVariants as stmt
use Rattle.entries.specs.declared.assertion_view.Hypothesis.TheVariants as hypothesis
use Rattle.frame.specs.AssertionView.{typecode_of}
use Rattle.frame.specs.LastActive.{actives, is_disj}
use Rattle.frame.specs.ListsOfPairs.{have_both}
use Rattle.frame.specs.MandatoryPairs.{float_variables, has_two_or_more_items, pairs_by}

-- ---- hypotheses, groups and pairs

-- the number is the variable of that `$f`
abbrev pub is_typed_by : ℕ → Hypothesis → Bool
is_typed_by c (hypothesis.Float x) = c == x
is_typed_by c (hypothesis.Essential p) = false

-- the number is the variable of one of the `$f`
abbrev pub is_typed : List Hypothesis → ℕ → Bool
is_typed hs c = list_any (is_typed_by c) hs

-- those of the numbers that are in the list ns
abbrev pub recorded_in : List ℕ → List ℕ → List ℕ
recorded_in ns codes = filter (λ c. list_any (λ n. n == c) ns) codes

-- the symbols of an entry, or none if there is no entry
abbrev pub option_symbols : Option Entry → List ℕ
option_symbols None = []
option_symbols (Some e) = e.symbols

-- the symbols of the entry at a position
abbrev pub symbols_at : List Entry → ℕ → List ℕ
symbols_at es p = option_symbols (slice_get es (p - 1))

-- the groups, and one more of those symbols that are among the variables, if these are two or more
abbrev pub with_group : List ℕ → List ℕ → List (List ℕ) → List (List ℕ)
with_group variables codes groups =
    if has_two_or_more_items (recorded_in variables codes) then groups ++ recorded_in variables codes ∷ [] else groups

-- for each list its numbers that are among the variables, if these are two or more
abbrev pub groups_in : List ℕ → List (List ℕ) → List (List ℕ)
groups_in variables lists = filter has_two_or_more_items (map (recorded_in variables) lists)

-- the lists, and one more, if it has two or more numbers
abbrev pub with_list : List ℕ → List (List ℕ) → List (List ℕ)
with_list list lists = if has_two_or_more_items list then lists ++ list ∷ [] else lists

-- the symbols of each `$d` that is active after S
abbrev pub disjoint_symbols : List Entry → Database → List (List ℕ)
disjoint_symbols es S = map (λ q. symbols_at es q.0) (actives is_disj S)

-- the numbers are different, and both are in one of the lists
abbrev pub are_together : List (List ℕ) → ℕ → ℕ → Bool
are_together lists x y = not (x == y) && have_both lists x y

-- the mandatory pairs of an assertion after the statements S with these hypotheses, as lists
abbrev pub stored_pairs : List Entry → Database → List Hypothesis → List (List ℕ)
stored_pairs es S hs = pairs_by (are_together (disjoint_symbols es S)) (float_variables hs)

-- the typecode of the statement at a position
abbrev pub typecode_at : List Entry → ℕ → ℕ
typecode_at es p = typecode_of (symbols_at es p)

-- the hypothesis at a position: the variable of a `$f`, or the position of a `$e`
abbrev pub hypothesis_by : ℕ → Kind → List ℕ → Hypothesis
hypothesis_by p Float codes = hypothesis.Float (get_or codes 1 0)
hypothesis_by p kind codes = hypothesis.Essential p

-- the hypothesis that is this entry
abbrev pub entry_hypothesis : ℕ → Option Entry → Hypothesis
entry_hypothesis p None = hypothesis.Essential p
entry_hypothesis p (Some e) = hypothesis_by p e.kind e.symbols

-- the hypothesis at a position
abbrev pub hypothesis_at : List Entry → ℕ → Hypothesis
hypothesis_at es p = entry_hypothesis p (slice_get es (p - 1))

-- the statement is a `$f` of a symbol of the expression
abbrev pub is_float_in : Expr → Stmt → Bool
is_float_in e (stmt.Float label constant variable) = has_name variable e
is_float_in e s = false

-- the positions of the active `$f` of the symbols of the expression
abbrev pub floats_in : Database → Expr → List ℕ
floats_in S e = map (λ p. p.0) (filter (λ p. is_float_in e p.1) (active S))
