-- An allowed text is decided as its statements were judged.
use Rattle.library.proofs.Words.{◌≡◌, ℕ, ◌+◌, ◌*◌, ◌≤◌, Bool, true, false, if◌then◌else◌, List, [], ◌∷◌, length, Option, Some, None, refl, sym, ◌∙◌, arith, subst, ap, Database, Submission, Text, Cause, TooLong, BadText, Shape, NotChartered, IsAllowed, IsCause, IsJudged, Decides, ReplicaState, decided_with, judged_statements, verdict_of, HasFewStepsForText}
use Rattle.library.specs.Causes.{IsReached, IsReachedIn}
use Rattle.library.specs.Judging.{IsToBeJudged}
use Rattle.library.specs.Work.{Stage, bytes_alone, past_limit, text_work, to_proof, to_statement}
use Rattle.library.specs.LibraryState.{IsWorkOf, work_or_cause}
use Rattle.library.proofs.CausesLemmas.{one-reading}
use Rattle.verify.specs.Metered.{Metered, is_over, is_past, metered, with_work}
use Rattle.library.specs.declared.entry_text.NewText.{NewText}
use Rattle.library.specs.declared.verdict.Cause.TheVariants.{TooCostly}

reached-in : (limit : Option ℕ) (L T : Database) (charter : Option (List ℕ)) (submission : Submission) (stage : Stage) → IsAllowed charter submission T → IsReachedIn limit L T stage
    → IsReached limit L charter submission T stage
reached-in limit L T charter submission bytes_alone allowed r = allowed.readable.short
reached-in limit L T charter submission (to_statement n) allowed r = (allowed, r)
reached-in limit L T charter submission (to_proof n) allowed r = (allowed, r)

-- why the statements of an allowed text are refused is the cause for which it is refused
pub judged-cause : (limit : Option ℕ) (L T : Database) (charter : Option (List ℕ)) (submission : Submission) (cause : Cause) → IsAllowed charter submission T
    → IsJudged limit L submission.text T (Some cause) → IsCause limit L charter submission cause
judged-cause limit L T charter submission TooLong allowed j = absurd j.0.1
judged-cause limit L T charter submission (TooCostly n) allowed j = record { statements = T; stage = j.stage; reached = reached-in limit L T charter submission j.stage allowed j.reached; past = j.past }
judged-cause limit L T charter submission BadText allowed j = absurd j.0.1
judged-cause limit L T charter submission Shape allowed j = absurd j.0.1
judged-cause limit L T charter submission (NotChartered n) allowed j = absurd j.0.1
judged-cause limit L T charter submission cause allowed j = (T, record { outcome_is = (allowed, j.0); within = j.1 })

module _ (limit : Option ℕ) (L : Database) (charter : Option (List ℕ)) (submission : Submission) (text : NewText) (read : IsToBeJudged limit charter submission text) where
  -- its bytes are counted, under the limit
  pub text-counted : text.meter.count ≡ length submission.text
  text-counted = ap (λ m. m.count) read.counted

  pub text-judged : (found : Option Cause) → IsJudged text.meter.limit L submission.text text.statements.items found → IsJudged limit L submission.text text.statements.items found
  text-judged found j = subst (λ l. IsJudged l L submission.text text.statements.items found) (ap (λ m. m.limit) read.counted) j

pub text-decided : (old : ReplicaState) (new : Database) (text : NewText) (submission : Submission) (found : Option Cause) → IsToBeJudged old.limit old.charter submission text
    → IsJudged old.limit old.statements submission.text text.statements.items found → new ≡ judged_statements true old.statements text.statements.items found
    → Decides old (Text submission) (verdict_of found) (record old { statements = new; decided = decided_with old.decided (Text submission) (verdict_of found) })
text-decided old new text submission None read j e = (
  text.statements.items,
  record { outcome_is = (read.allowed, j.0, j.1); within = j.2 },
  ap (λ S. record old { statements = S; decided = decided_with old.decided (Text submission) (verdict_of None) }) e,
)
text-decided old new text submission (Some cause) read j e = (
  judged-cause old.limit old.statements text.statements.items old.charter submission cause read.allowed j,
  ap (λ S. record old { statements = S; decided = decided_with old.decided (Text submission) (verdict_of (Some cause)) }) e,
)

-- ---- the bytes

-- the count of a meter that counts the bytes first
pub bytes-counted : (limit : Option ℕ) (bytes : ℕ) (m m' : Metered) → m.count ≡ 0 → m.limit ≡ limit → m' ≡ with_work m bytes → m' ≡ metered bytes limit
bytes-counted limit bytes m m' none same e =
    let sum : m.count + bytes ≡ bytes = omega (arith, none) in
    e ∙ (ap (λ n. metered n m.limit) sum ∙ ap (metered bytes) same)

pub bytes-within : (limit : Option ℕ) (bytes : List ℕ) (m : Metered) → m ≡ metered (length bytes) limit → is_past m ≡ false → past_limit limit ((0, length bytes) ∷ []) ≡ None
bytes-within limit bytes m e h = by limit (sym (ap is_past e) ∙ h)
  where
    by : (limit : Option ℕ) → is_over limit (length bytes) ≡ false → past_limit limit ((0, length bytes) ∷ []) ≡ None
    by None h = refl
    by (Some N) h = let f : Bool → Option ℕ = λ b. if b then Some 0 else None in ap f h

pub bytes-past : (limit : Option ℕ) (bytes : List ℕ) (m : Metered) → m ≡ metered (length bytes) limit → is_past m ≡ true → past_limit limit ((0, length bytes) ∷ []) ≡ Some 0
bytes-past limit bytes m e h = by limit (sym (ap is_past e) ∙ h)
  where
    by : (limit : Option ℕ) → is_over limit (length bytes) ≡ true → past_limit limit ((0, length bytes) ∷ []) ≡ Some 0
    by None h = absurd (let f = h in cc)
    by (Some N) h = let f : Bool → Option ℕ = λ b. if b then Some 0 else None in ap f h

-- ---- the steps and the work of a text

pub within-read : (charter : Option (List ℕ)) (submission : Submission) (T : Database) (before after : ℕ) → IsAllowed charter submission T → after ≤ before + 2 * length T → HasFewStepsForText submission before after
within-read charter submission T before after allowed h =
    record { read = λ U reads. subst (λ V. after ≤ before + 3 * length V) (one-reading submission.text T U allowed.readable.read reads) (omega (arith, h)); unread = λ none. absurd (none T allowed.readable.read) }

-- the work of a text that would be added, or the cause for which it would be refused
pub text-work-of : (replica : ReplicaState) (submission : Submission) (text : NewText) (found : Option Cause) (n : ℕ) → IsToBeJudged replica.limit replica.charter submission text
    → IsJudged replica.limit replica.statements submission.text text.statements.items found → (found ≡ None → n ≡ text_work replica.statements submission.text text.statements.items)
    → IsWorkOf replica submission (work_or_cause found n)
text-work-of replica submission text None n read j work = (text.statements.items, record { outcome_is = (read.allowed, j.0, j.1); within = j.2 }, work refl)
text-work-of replica submission text (Some cause) n read j work = judged-cause replica.limit replica.statements text.statements.items replica.charter submission cause read.allowed j
