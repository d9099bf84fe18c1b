-- Without a limit, a log has the library of the definition without limits.
use Rattle.library.proofs.Words.{◌≡◌, ◌↔◌, ℕ, List, [], ◌∷◌, Option, Some, None, refl, sym, ◌∙◌, ap, subst, Database, Entry, Submission, Text, Charter, Verdict, Added, Refused, Cause, TooLong, BadText, Shape, NotChartered, IsCause, ReplicaState, author_of, serial_of, status, Decides, AppliesAt, Applies, Runs}
use Rattle.library.specs.declared.verdict.Cause.TheVariants.{LeavesHypotheses, Rule, TooCostly}
use Rattle.library.specs.Laws.{without_limit}
use Rattle.library.specs.UnlimitedLibraryOf.{IsUnlimitedCause, UnlimitedApplies, UnlimitedAppliesAt, UnlimitedDecides, UnlimitedReplicaState, UnlimitedRuns}

-- ---- causes

module _ (L : Database) (charter : Option (List ℕ)) (submission : Submission) where
  cause-unlimited : (cause : Cause) → IsCause None L charter submission cause → IsUnlimitedCause L charter submission cause
  cause-unlimited TooLong p = p
  cause-unlimited (TooCostly n) p = absurd (let e = p.past in cc)
  cause-unlimited BadText p = p.1.outcome_is.1
  cause-unlimited Shape p = p.1.outcome_is.1
  cause-unlimited (NotChartered n) p = (p.0, p.1.outcome_is.0, p.1.outcome_is.1)
  cause-unlimited (Rule n rule) p = (p.0, p.1.outcome_is.0, p.1.outcome_is.1)
  cause-unlimited (LeavesHypotheses n) p = absurd (let e = p.1.outcome_is.1.1 in cc)
  cause-unlimited cause p = (p.0, p.1.outcome_is.0, p.1.outcome_is.1.1)

  unlimited-cause : (cause : Cause) → IsUnlimitedCause L charter submission cause → IsCause None L charter submission cause
  unlimited-cause TooLong p = p
  unlimited-cause (TooCostly n) p = absurd p.2
  unlimited-cause BadText p = ([], record { outcome_is = (refl, p); within = refl })
  unlimited-cause Shape p = ([], record { outcome_is = (refl, p); within = refl })
  unlimited-cause (NotChartered n) p = (p.0, record { outcome_is = (p.1, p.2); within = refl })
  unlimited-cause (Rule n rule) p = (p.0, record { outcome_is = (p.1, p.2); within = refl })
  unlimited-cause (LeavesHypotheses n) p = absurd p.2
  unlimited-cause cause p = (p.0, record { outcome_is = (p.1, (refl, p.2)); within = refl })

-- ---- one entry

abbrev with_none : UnlimitedReplicaState → ReplicaState
with_none r = record { statements = r.statements; decided = r.decided; charter = r.charter; limit = None }

-- a replica without a limit is determined by the rest
whole : (replica : ReplicaState) → replica.limit ≡ None → replica ≡ with_none (without_limit replica)
whole replica e = ap (λ limit. record replica { limit = limit }) e

made : (replica : ReplicaState) (r : UnlimitedReplicaState) → (replica ≡ with_none r) ↔ ((without_limit replica ≡ r) × (replica.limit ≡ None))
made replica r = ((λ e. (ap without_limit e, ap (λ s. s.limit) e)), λ q. whole replica q.1 ∙ ap with_none q.0)

module _ (old : UnlimitedReplicaState) where
  decides : (entry : Entry) (v : Verdict) (new : ReplicaState) → Decides (with_none old) entry v new ↔ (UnlimitedDecides old entry v (without_limit new) × (new.limit ≡ None))
  decides (Text submission) Added new = (
    (λ p. let m = (made new _).0 p.2 in ((p.0, p.1.outcome_is.0, p.1.outcome_is.2, m.0), m.1)),
    λ q. (q.0.0, record { outcome_is = (q.0.1, refl, q.0.2); within = refl }, (made new _).1 (q.0.3, q.1)),
  )
  decides (Text submission) (Refused cause) new = (
    (λ p. let m = (made new _).0 p.1 in ((cause-unlimited old.statements old.charter submission cause p.0, m.0), m.1)),
    λ q. (unlimited-cause old.statements old.charter submission cause q.0.0, (made new _).1 (q.0.1, q.1)),
  )
  decides (Charter author serial names) Added new = (
    (λ p. let m = (made new _).0 p.1 in ((p.0, m.0), m.1)),
    λ q. (q.0.0, (made new _).1 (q.0.1, q.1)),
  )
  decides (Charter author serial names) (Refused cause) new = (
    (λ p. let m = (made new _).0 p.2 in ((p.0, p.1, m.0), m.1)),
    λ q. (q.0.0, q.0.1, (made new _).1 (q.0.2, q.1)),
  )
  decides entry v new = ((λ p. absurd p), λ q. absurd q.0)

  decides-at : (first : Option Verdict) (entry : Entry) (v : Verdict) (new : ReplicaState) → AppliesAt first (with_none old) entry v new
      ↔ (UnlimitedAppliesAt first old entry v (without_limit new) × (new.limit ≡ None))
  decides-at (Some verdict) entry v new = ((λ p. let m = (made new old).0 p.1 in ((p.0, m.0), m.1)), λ q. (q.0.0, (made new old).1 (q.0.1, q.1)))
  decides-at None entry v new = decides entry v new

  applies : (entry : Option Entry) (v : Verdict) (new : ReplicaState) → Applies (with_none old) entry v new ↔ (UnlimitedApplies old entry v (without_limit new) × (new.limit ≡ None))
  applies None v new = ((λ p. let m = (made new old).0 p.1 in ((p.0, m.0), m.1)), λ q. (q.0.0, (made new old).1 (q.0.1, q.1)))
  applies (Some entry) v new = decides-at (status old.decided (author_of entry) (serial_of entry)) entry v new

applies-from : (old : ReplicaState) (entry : Option Entry) (v : Verdict) (mid : ReplicaState) → old.limit ≡ None → Applies old entry v mid ↔ (UnlimitedApplies (without_limit old) entry v (without_limit mid) × (mid.limit ≡ None))
applies-from old entry v mid none =
    subst (λ r. Applies r entry v mid ↔ (UnlimitedApplies (without_limit old) entry v (without_limit mid) × (mid.limit ≡ None))) (sym (whole old none)) (applies (without_limit old) entry v mid)

-- ---- logs

pub runs-unlimited : (log : List (Option Entry)) (old new : ReplicaState) → old.limit ≡ None → Runs old log new ↔ (UnlimitedRuns (without_limit old) log (without_limit new) × (new.limit ≡ None))
runs-unlimited [] old new none = ((λ p. (ap without_limit p, ap (λ r. r.limit) p ∙ none)), λ q. (made new (without_limit old)).1 q ∙ sym (whole old none))
runs-unlimited (entry ∷ log) old new none = (
  (λ p. let step = (applies-from old entry p.1 p.0 none).0 p.2 in let rest = (runs-unlimited log p.0 new step.1).0 p.3 in ((without_limit p.0, p.1, step.0, rest.0), rest.1)),
  λ q. let mid = with_none q.0.0 in (mid, q.0.1, (applies-from old entry q.0.1 mid none).1 (q.0.2, refl), (runs-unlimited log mid new refl).1 (q.0.3, q.1)),
)
