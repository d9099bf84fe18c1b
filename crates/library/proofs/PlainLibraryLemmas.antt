-- A log without charters has the same library under the definition that knows no charters.
use Rattle.library.proofs.Words.{◌≡◌, ◌↔◌, List, [], ◌∷◌, map, option_map, Option, Some, None, refl, sym, ◌∙◌, ap, subst, Database, Submission, Text, Verdict, Added, Refused, Cause, TooLong, BadText, Shape, NotChartered, EntryVerdict, empty, status, PlainReplicaState, IsPlainCause, PlainDecides, PlainAppliesAt, PlainApplies, PlainRuns}
use Rattle.library.specs.Laws.{PlainWithoutCharters, without_limit}
use Rattle.library.specs.UnlimitedLibraryOf.{IsUnlimitedCause, UnlimitedApplies, UnlimitedAppliesAt, UnlimitedDecides, UnlimitedReplicaState, UnlimitedRuns, unlimited_empty}
use Rattle.library.proofs.UnlimitedLibraryLemmas.{runs-unlimited}

-- ---- causes

module _ (L : Database) (submission : Submission) where
  plain-cause : (cause : Cause) → IsUnlimitedCause L None submission cause → IsPlainCause L submission cause
  plain-cause TooLong p = p
  plain-cause BadText p = p
  plain-cause Shape p = p
  plain-cause (NotChartered n) p = let e : None ≡ Some n = p.2 in cc
  plain-cause cause p = (p.0, p.1.readable, p.2)

  cause-plain : (cause : Cause) → IsPlainCause L submission cause → IsUnlimitedCause L None submission cause
  cause-plain TooLong p = p
  cause-plain BadText p = p
  cause-plain Shape p = p
  cause-plain (NotChartered n) p = absurd p.2
  cause-plain cause p = (p.0, record { readable = p.1; allowed = refl }, p.2)

-- ---- one text

abbrev bare_of : Database → List EntryVerdict → UnlimitedReplicaState
bare_of S decided = record { statements = S; decided = decided; charter = None }

abbrev plain_of : UnlimitedReplicaState → PlainReplicaState
plain_of r = record { statements = r.statements; decided = r.decided }

-- a library without a charter is determined by its statements and its decided entries
whole : (replica : UnlimitedReplicaState) → replica.charter ≡ None → replica ≡ bare_of replica.statements replica.decided
whole replica e = ap (λ charter. record replica { charter = charter }) e

made : (replica : UnlimitedReplicaState) (S : Database) (ds : List EntryVerdict) → (replica ≡ bare_of S ds) ↔ ((plain_of replica ≡ plain_of (bare_of S ds)) × (replica.charter ≡ None))
made replica S ds =
    ((λ e. (ap plain_of e, ap (λ r. r.charter) e)), λ q. whole replica q.1 ∙ ap (λ (r : PlainReplicaState). bare_of r.statements r.decided) q.0)

module _ (S : Database) (ds : List EntryVerdict) where
  abbrev plain : PlainReplicaState
  plain = plain_of (bare_of S ds)

  decides : (submission : Submission) (v : Verdict) (new : UnlimitedReplicaState) → UnlimitedDecides (bare_of S ds) (Text submission) v new ↔ (PlainDecides plain submission v (plain_of new) × (new.charter ≡ None))
  decides submission Added new = (
    (λ p. let m = (made new _ _).0 p.3 in ((p.0, p.1.readable, p.2, m.0), m.1)),
    λ q. (q.0.0, record { readable = q.0.1; allowed = refl }, q.0.2, (made new _ _).1 (q.0.3, q.1)),
  )
  decides submission (Refused cause) new = (
    (λ p. let m = (made new _ _).0 p.1 in ((plain-cause S submission cause p.0, m.0), m.1)),
    λ q. (cause-plain S submission cause q.0.0, (made new _ _).1 (q.0.1, q.1)),
  )
  decides submission v new = ((λ p. absurd p), λ q. absurd q.0)

  decides-at : (first : Option Verdict) (submission : Submission) (v : Verdict) (new : UnlimitedReplicaState) → UnlimitedAppliesAt first (bare_of S ds) (Text submission) v new
      ↔ (PlainAppliesAt first plain submission v (plain_of new) × (new.charter ≡ None))
  decides-at (Some verdict) submission v new = ((λ p. let m = (made new S ds).0 p.1 in ((p.0, m.0), m.1)), λ q. (q.0.0, (made new S ds).1 (q.0.1, q.1)))
  decides-at None submission v new = decides submission v new

  applies : (text : Option Submission) (v : Verdict) (new : UnlimitedReplicaState) → UnlimitedApplies (bare_of S ds) (option_map Text text) v new ↔ (PlainApplies plain text v (plain_of new) × (new.charter ≡ None))
  applies None v new = ((λ p. let m = (made new S ds).0 p.1 in ((p.0, m.0), m.1)), λ q. (q.0.0, (made new S ds).1 (q.0.1, q.1)))
  applies (Some submission) v new = decides-at (status ds submission.author submission.serial) submission v new

applies-from : (old : UnlimitedReplicaState) (text : Option Submission) (v : Verdict) (mid : UnlimitedReplicaState) → old.charter ≡ None
    → UnlimitedApplies old (option_map Text text) v mid ↔ (PlainApplies (plain_of old) text v (plain_of mid) × (mid.charter ≡ None))
applies-from old text v mid none =
    subst (λ r. UnlimitedApplies r (option_map Text text) v mid ↔ (PlainApplies (plain_of old) text v (plain_of mid) × (mid.charter ≡ None))) (sym (whole old none)) (applies old.statements old.decided text v mid)

-- ---- logs

runs-plain : (log : List (Option Submission)) (old new : UnlimitedReplicaState) → old.charter ≡ None
    → UnlimitedRuns old (map (option_map Text) log) new ↔ (PlainRuns (plain_of old) log (plain_of new) × (new.charter ≡ None))
runs-plain [] old new none =
    ((λ p. (ap plain_of p, ap (λ r. r.charter) p ∙ none)), λ q. (made new old.statements old.decided).1 q ∙ sym (whole old none))
runs-plain (text ∷ log) old new none = (
  (λ p. let step = (applies-from old text p.1 p.0 none).0 p.2 in let rest = (runs-plain log p.0 new step.1).0 p.3 in ((plain_of p.0, p.1, step.0, rest.0), rest.1)),
  λ q. let mid = bare_of q.0.0.statements q.0.0.decided in (mid, q.0.1, (applies-from old text q.0.1 mid none).1 (q.0.2, refl), (runs-plain log mid new refl).1 (q.0.3, q.1)),
)

pub plain_without_charters : PlainWithoutCharters
plain_without_charters log replica =
    let unlimited = runs-unlimited (map (option_map Text) log) (empty None) replica refl in
    let plain = runs-plain log unlimited_empty (without_limit replica) refl in (
      (λ p. let u = unlimited.0 p in let q = plain.0 u.0 in (q.0, (q.1, u.1))),
      λ q. unlimited.1 (plain.1 (q.0, q.1.0), q.1.1),
    )
