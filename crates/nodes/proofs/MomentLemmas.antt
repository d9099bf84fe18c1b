-- What a history says, with more moments: the last moment under a lock stays the last one while none
-- is recorded under it.
use Rattle.std.proofs.Common.{◌≡◌, ◌≢◌, ℕ, ◌+◌, ◌==◌, Bool, true, false, List, [], ◌∷◌, ◌++◌, Option, Some, None, refl, ap, sym, ◌∙◌, arith, if◌then◌else◌}
use Rattle.std.proofs.lemmas.Bool.Decides.{nat_tests}
use Rattle.net.specs.Agree.{IsPrefixOf}
use Rattle.nodes.specs.declared.moment.Moment.{Moment}
use Rattle.nodes.specs.declared.moment.Moment.TheVariants.{SwitchIs, CellIs, Ended}
use Rattle.nodes.specs.Moments.{lock_of, count_of, last_from, last_at, IsStoppedAt}

pub count-append : (lock : ℕ) (xs ys : List Moment) → count_of lock (xs ++ ys) ≡ count_of lock xs + count_of lock ys
count-append lock [] ys = omega arith
count-append lock (x ∷ xs) ys = let rest = count-append lock xs ys in omega (arith, rest)

pub count-push : (lock : ℕ) (history : List Moment) (m : Moment) → count_of lock (history ++ m ∷ []) ≡ count_of lock history + (if lock_of m == lock then 1 else 0)
count-push lock history m = let both = count-append lock history (m ∷ []) in omega (arith, both)

-- one more moment under its own lock, and under another
pub count-own : (lock : ℕ) (history : List Moment) (m : Moment) → lock_of m ≡ lock → count_of lock (history ++ m ∷ []) ≡ count_of lock history + 1
count-own lock history m is =
    let own : (lock_of m == lock) ≡ true = grind (arith, nat_tests) in
    count-push lock history m ∙ ap (λ (t : Bool). count_of lock history + (if t then 1 else 0)) own

pub count-other : (lock : ℕ) (history : List Moment) (m : Moment) → (lock_of m == lock) ≡ false → count_of lock (history ++ m ∷ []) ≡ count_of lock history
count-other lock history m off =
    let none : count_of lock history + 0 ≡ count_of lock history = omega arith in
    count-push lock history m ∙ ap (λ (t : Bool). count_of lock history + (if t then 1 else 0)) off ∙ none

last_from-append : (lock : ℕ) (last : Option Moment) (xs ys : List Moment) → last_from lock last (xs ++ ys) ≡ last_from lock (last_from lock last xs) ys
last_from-append lock last [] ys = refl
last_from-append lock last (x ∷ xs) ys = last_from-append lock (if lock_of x == lock then Some x else last) xs ys

pub last-own : (lock : ℕ) (history : List Moment) (m : Moment) → lock_of m ≡ lock → last_at lock (history ++ m ∷ []) ≡ Some m
last-own lock history m is =
    let own : (lock_of m == lock) ≡ true = grind (arith, nat_tests) in
    last_from-append lock None history (m ∷ []) ∙ ap (λ (t : Bool). if t then Some m else last_at lock history) own

pub last-other : (lock : ℕ) (history : List Moment) (m : Moment) → lock_of m ≢ lock → last_at lock (history ++ m ∷ []) ≡ last_at lock history
last-other lock history m other =
    let off : (lock_of m == lock) ≡ false = grind (arith, nat_tests) in
    last_from-append lock None history (m ∷ []) ∙ ap (λ (t : Bool). if t then Some m else last_at lock history) off

none_parts : (b : Bool) (n : ℕ) → (if b then 1 else 0) + n ≡ 0 → (b ≡ false) × (n ≡ 0)
none_parts true n e = absurd (omega (arith, e))
none_parts false n e = (refl, omega (arith, e))

last_from-none : (lock : ℕ) (last : Option Moment) (ms : List Moment) → count_of lock ms ≡ 0 → last_from lock last ms ≡ last
last_from-none lock last [] none = refl
last_from-none lock last (m ∷ ms) none =
    let p = none_parts (lock_of m == lock) (count_of lock ms) none in
    ap (λ (t : Bool). last_from lock (if t then Some m else last) ms) p.0 ∙ last_from-none lock last ms p.1

-- where nothing was recorded under the lock, there is no last moment
pub last-none : (lock : ℕ) (history : List Moment) → count_of lock history ≡ 0 → last_at lock history ≡ None
last-none lock history none = last_from-none lock None history none

-- where no more moments were recorded under the lock, the last one is the same
pub last_stays : (lock : ℕ) (early late : List Moment) → IsPrefixOf early late → count_of lock late ≡ count_of lock early → last_at lock late ≡ last_at lock early
last_stays lock early late p same =
    let whole = ap (λ (ms : List Moment). count_of lock ms) p.1 in
    let none : count_of lock p.0 ≡ 0 = omega (arith, whole, count-append lock early p.0, same) in
    sym (ap (λ (ms : List Moment). last_at lock ms) p.1) ∙ last_from-append lock None early p.0 ∙ last_from-none lock (last_at lock early) p.0 none

-- where a lock has no more moments late than early, it has no more in between
pub none_between : (lock : ℕ) (early mid late : List Moment) → IsPrefixOf early mid → IsPrefixOf mid late → count_of lock late ≡ count_of lock early → count_of lock mid ≡ count_of lock early
none_between lock early mid late p q same =
    let one = ap (λ (ms : List Moment). count_of lock ms) p.1 in
    let two = ap (λ (ms : List Moment). count_of lock ms) q.1 in
    omega (arith, one, two, count-append lock early p.0, count-append lock mid q.0, same)

-- what is stopped stays so

one_more : (m : Moment) → (if lock_of m == 1 then Some m else Some Ended) ≡ Some Ended
one_more (SwitchIs s) = refl
one_more Ended = refl
one_more (CellIs c) = let off : ((2 + c.node) == 1) ≡ false = grind (arith, nat_tests) in ap (λ (t : Bool). if t then Some (CellIs c) else Some Ended) off

ended_from : (ms : List Moment) → last_from 1 (Some Ended) ms ≡ Some Ended
ended_from [] = refl
ended_from (m ∷ ms) = ap (λ (o : Option Moment). last_from 1 o ms) (one_more m) ∙ ended_from ms

pub stopped_stays : (early late : List Moment) → IsPrefixOf early late → IsStoppedAt early true → IsStoppedAt late true
stopped_stays early late p is =
    sym (ap (λ (ms : List Moment). last_at 1 ms) p.1) ∙ last_from-append 1 None early p.0 ∙ ap (λ (o : Option Moment). last_from 1 o p.0) is ∙ ended_from p.0
