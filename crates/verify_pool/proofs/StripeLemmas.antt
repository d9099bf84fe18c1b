-- What a worker found out about its jobs, one after another.
use Rattle.verify_pool.proofs.Words.{◌≡◌, ℕ, zero, suc, ◌+◌, ◌*◌, ◌/◌, ◌%◌, ◌<◌, ◌++◌, ◌⊎◌, inl, inr, false, List, [], ◌∷◌, length, slice_get, get_or, Some, Result, Ok, Err, refl, sym, subst, ap, arith, mod-lt, suc-mul, same_Some, none-some, slice_get_read, Found, IsFound, AreFound, AreFoundIn}
use Rattle.std.proofs.Common.{cond, is_ok, is_err}
use Rattle.std.proofs.lemmas.Nat.{div-add-mod'}
use Rattle.verify_pool.specs.declared.checkers.Worker.{Worker}

-- an element of a list with one element appended is an old element or the new one
pub get_added : {X : Type 0} (xs : List X) (x y : X) (k : ℕ) → slice_get (xs ++ x ∷ []) k ≡ Some y → (slice_get xs k ≡ Some y) ⊎ ((k ≡ length xs) × (x ≡ y))
get_added [] x y zero e = inr (refl, same_Some x y e)
get_added [] x y (suc k) e = absurd (none-some y e)
get_added (z ∷ xs) x y zero e = inl e
get_added (z ∷ xs) x y (suc k) e = elim (get_added xs x y k e) [ inl old ↦ inl old | inr new ↦ inr (ap suc new.0, new.1) ]

-- if nothing failed, the element was appended
pub appended : {A E X : Type 0} (r : Result A E) (xs : List X) (x : X) (ys : List X) → ys ≡ cond (is_ok r) (xs ++ x ∷ []) xs → is_err r ≡ false → ys ≡ xs ++ x ∷ []
appended (Ok a) xs x ys e ok = e
appended (Err f) xs x ys e ok = absurd (cc ok)

-- one step further is the next turn
pub next_turn : {X : Type 0} (first step i : ℕ) (xs : List X) (x : X) → i ≡ first + length xs * step → i + step ≡ first + length (xs ++ x ∷ []) * step
next_turn first step i xs x place = rw (length_one xs x, suc-mul) (omega arith)
  where
    length_one : {X : Type 0} (xs : List X) (x : X) → length (xs ++ x ∷ []) ≡ suc (length xs)
    length_one [] x = refl
    length_one (y ∷ xs) x = ap suc (length_one xs x)

module _ (right : ℕ → Type 0) (works : ℕ → ℕ) where
  -- the job at the next turn
  pub one_more : (first step i : ℕ) (founds : List Found) (found : Found) → i ≡ first + length founds * step → IsFound right works i found
      → AreFoundIn right works first step founds → AreFoundIn right works first step (founds ++ found ∷ [])
  one_more first step i founds found place here before turn other stands =
      elim (get_added founds found other turn stands) as (λ _. IsFound right works (first + turn * step) other) [
        | inl old ↦ before turn other old
        | inr new ↦
            let e : i ≡ first + turn * step = subst (λ n. i ≡ first + n * step) (sym new.0) place in
            subst (IsFound right works (first + turn * step)) new.1 (subst (λ k. IsFound right works k found) e here)
      ]

  -- job k is that of turn k / step of worker k % step
  pub found-at : (workers : List Worker) (w : Worker) (index : ℕ) (found : Found) (founds : List Found) → 0 < length workers → AreFound right works workers
      → founds ≡ (get_or workers (index % length workers) w).founds.items → index / length workers < length founds → found ≡ get_or founds (index / length workers) found
      → IsFound right works index found
  found-at workers w index found founds some are is within stands =
      let step = length workers in
      let place : index ≡ index % step + index / step * step = omega (arith, div-add-mod' index step) in
      subst (λ k. IsFound right works k found) (sym place)
      (subst (AreFoundIn right works (index % step) step) (sym is) (are (index % step) w (mod-lt index some)) (index / step) found
      (slice_get_read founds (length founds) (index / step) found refl within stands))
