-- Counts that are past a limit.
use Rattle.subst.proofs.Words.{◌≡◌, ℕ, ◌+◌, ◌≤◌, true, List, take, drop, sum_by, arith, nat_tests, ap, take-append-drop, Option, Some, None, Result, Ok, Err, is_over}
use Rattle.std.specs.Result.{IfErr}
use Rattle.std.proofs.lemmas.List.Sums.{sum_by-append}

-- a count that is past the limit is past it where it is more
pub past-more : (limit : Option ℕ) (m n : ℕ) → m ≤ n → is_over limit m ≡ true → is_over limit n ≡ true
past-more None m n less e = e
past-more (Some limit) m n less e = grind (arith, nat_tests, less, e)

-- what was counted for the first of a list is past the limit, so it is for all
pub past-taken : (limit : Option ℕ) (f : ℕ → ℕ) (xs : List ℕ) (n first so_far : ℕ) → so_far ≡ first + sum_by f (take n xs) → is_over limit so_far ≡ true → is_over limit (first + sum_by f xs) ≡ true
past-taken limit f xs n first so_far is past =
    let whole = ap (sum_by f) (take-append-drop n xs) in
    let parts = sum_by-append f (take n xs) (drop n xs) in
    past-more limit so_far (first + sum_by f xs) (omega (arith, is, whole, parts)) past

-- what follows from an error follows from it in another form
pub err_weaker : {A E : Type 0} (r : Result A E) (P Q : E → Type 0) → ((e : E) → P e → Q e) → IfErr r P → IfErr r Q
err_weaker (Ok a) P Q f h = h
err_weaker (Err e) P Q f h = f e h
