-- The table of the states of entries when an entry is put into it.
use Rattle.library.proofs.Words.{◌≡◌, ℕ, ◌==◌, ◌&&◌, List, [], ◌∷◌, ◌++◌, Option, Some, None, refl, arith, status, Cause, BTreeMap, is_at, Updates, EntryState, EntryVerdict, IsTableOf, key_cmp, verdict_of}
use mathlib.Core.Bool.{cond}
use Rattle.library.specs.declared.decided.EntryState.TheVariants.{Undecided, Decided as Settled}

-- two keys are equal if and only if both of their numbers are
same-key : (a s b t : ℕ) → is_at (key_cmp (a, s)) (b, t) ≡ (b == a) && (t == s)
same-key a s b t = grind (arith)

-- the status of entries when the verdict on an undecided entry is appended
status-last : (ds : List EntryVerdict) (d : EntryVerdict) (a s : ℕ) → status ds d.author d.serial ≡ None → status (ds ++ d ∷ []) a s ≡ cond ((a == d.author) && (s == d.serial)) (Some d.verdict) (status ds a s)
status-last [] d a s none = refl
status-last (e ∷ ds) d a s none = grind (arith, none, status-last ds d a s)

-- the table still fits when an undecided entry gets the state `Undecided`
pub opened : (ds : List EntryVerdict) (m n : BTreeMap (ℕ × ℕ) EntryState) (a s : ℕ) → IsTableOf ds m → status ds a s ≡ None → Updates key_cmp m n (a, s) (Some Undecided) → IsTableOf ds n
opened ds m n a s is none up b t = grind (arith, up.0 (b, t), same-key a s b t, is b t, none)

-- the table fits the verdicts with one appended when an undecided entry gets its verdict
pub settled : (ds : List EntryVerdict) (m n : BTreeMap (ℕ × ℕ) EntryState) (a s : ℕ) (cause : Option Cause) → IsTableOf ds m → status ds a s ≡ None → Updates key_cmp m n (a, s) (Some (Settled cause)) → IsTableOf (ds ++ record { author = a; serial = s; verdict = verdict_of cause } ∷ []) n
settled ds m n a s cause is none up b t = grind (arith, up.0 (b, t), same-key a s b t, is b t, none, status-last ds (record { author = a; serial = s; verdict = verdict_of cause }) b t none)
