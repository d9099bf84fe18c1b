-- Where a limit gives no verdict, it changes nothing.
use Rattle.library.proofs.Words.{◌≡◌, ℕ, true, ◌&&◌, IsTrue, List, [], ◌∷◌, ◌++◌, Option, Some, None, refl, sym, ◌∙◌, ap, subst, append-nil, append_assoc, and_parts, list_all, list_all-append, Database, Entry, Submission, Text, Charter, Verdict, Added, Refused, Cause, TooLong, BadText, Shape, NotChartered, IsCause, ReplicaState, EntryVerdict, empty, status_of, Decides, AppliesAt, Applies, Runs}
use Rattle.std.specs.Prelude.{not}
use Rattle.library.specs.declared.verdict.Cause.TheVariants.{LeavesHypotheses, Rule, TooCostly}
use Rattle.library.specs.Laws.{LimitKeepsStatements, is_by_limit}
use Rattle.library.proofs.LibraryLemmas.{runs-one}

-- none of these verdicts is one that only a limit gives
abbrev AreWithoutLimit : List EntryVerdict → Type 0
AreWithoutLimit ds = IsTrue (list_all (λ (d : EntryVerdict). not (is_by_limit d.verdict)) ds)

-- the replica without its limit
abbrev freed : ReplicaState → ReplicaState
freed replica = record replica { limit = None }

-- ---- the verdicts of a prefix

-- the verdicts only grow
abbrev Extends : List EntryVerdict → List EntryVerdict → Type 0
Extends old new = (more : List EntryVerdict) × (new ≡ old ++ more)

stays : (old new : ReplicaState) → new.decided ≡ old.decided → Extends old.decided new.decided
stays old new e = ([], e ∙ sym (append-nil old.decided))

decides-extends : (old new : ReplicaState) (entry : Entry) (v : Verdict) → Decides old entry v new → Extends old.decided new.decided
decides-extends old new (Text submission) Added p = (_, ap (λ r. r.decided) p.2)
decides-extends old new (Text submission) (Refused cause) p = (_, ap (λ r. r.decided) p.1)
decides-extends old new (Charter author serial names) Added p = (_, ap (λ r. r.decided) p.1)
decides-extends old new (Charter author serial names) (Refused cause) p = (_, ap (λ r. r.decided) p.2)
decides-extends old new entry v p = absurd p

applies-at-extends : (first : Option Verdict) (old new : ReplicaState) (entry : Entry) (v : Verdict) → AppliesAt first old entry v new → Extends old.decided new.decided
applies-at-extends (Some first) old new entry v p = stays old new (ap (λ r. r.decided) p.1)
applies-at-extends None old new entry v p = decides-extends old new entry v p

applies-extends : (old new : ReplicaState) (entry : Option Entry) (v : Verdict) → Applies old entry v new → Extends old.decided new.decided
applies-extends old new None v p = stays old new (ap (λ r. r.decided) p.1)
applies-extends old new (Some entry) v p = applies-at-extends (status_of old entry) old new entry v p

runs-extends : (log : List (Option Entry)) (old new : ReplicaState) → Runs old log new → Extends old.decided new.decided
runs-extends [] old new p = stays old new (ap (λ r. r.decided) p)
runs-extends (entry ∷ log) old new p =
    let first = applies-extends old p.0 entry p.1 p.2 in
    let rest = runs-extends log p.0 new p.3 in
    (first.0 ++ rest.0, rest.1 ∙ (ap (λ ds. ds ++ rest.0) first.1 ∙ append_assoc old.decided first.0 rest.0))

first-without : (ds more : List EntryVerdict) → AreWithoutLimit (ds ++ more) → AreWithoutLimit ds × AreWithoutLimit more
first-without ds more h =
    and_parts _ _ (sym (list_all-append (λ (d : EntryVerdict). not (is_by_limit d.verdict)) ds more) ∙ h)

-- ---- one entry

module _ (limit : Option ℕ) (L : Database) (charter : Option (List ℕ)) (submission : Submission) where
  free-cause : (cause : Cause) → (not (is_by_limit (Refused cause)) && true) ≡ true → IsCause limit L charter submission cause → IsCause None L charter submission cause
  free-cause TooLong free p = p
  free-cause (TooCostly n) free p = absurd (let e = free in cc)
  free-cause BadText free p = (p.0, record { outcome_is = p.1.outcome_is; within = refl })
  free-cause Shape free p = (p.0, record { outcome_is = p.1.outcome_is; within = refl })
  free-cause (NotChartered n) free p = (p.0, record { outcome_is = p.1.outcome_is; within = refl })
  free-cause (Rule n rule) free p = (p.0, record { outcome_is = p.1.outcome_is; within = refl })
  free-cause (LeavesHypotheses n) free p = absurd (let e = free in cc)
  free-cause cause free p = (p.0, record { outcome_is = (p.1.outcome_is.0, (refl, p.1.outcome_is.1.1)); within = refl })

free-decides : (old new : ReplicaState) (entry : Entry) (v : Verdict) → AreWithoutLimit new.decided → Decides old entry v new → Decides (freed old) entry v (freed new)
free-decides old new (Text submission) Added free p = (p.0, record { outcome_is = (p.1.outcome_is.0, refl, p.1.outcome_is.2); within = refl }, ap freed p.2)
free-decides old new (Text submission) (Refused cause) free p =
    let decided = ap (λ r. r.decided) p.1 in
    let last = (first-without old.decided _ (subst AreWithoutLimit decided free)).1 in
    (free-cause old.limit old.statements old.charter submission cause last p.0, ap freed p.1)
free-decides old new (Charter author serial names) Added free p = (p.0, ap freed p.1)
free-decides old new (Charter author serial names) (Refused cause) free p = (p.0, p.1, ap freed p.2)
free-decides old new entry v free p = absurd p

free-applies-at : (first : Option Verdict) (old new : ReplicaState) (entry : Entry) (v : Verdict) → AreWithoutLimit new.decided → AppliesAt first old entry v new → AppliesAt first (freed old) entry v (freed new)
free-applies-at (Some first) old new entry v free p = (p.0, ap freed p.1)
free-applies-at None old new entry v free p = free-decides old new entry v free p

free-applies : (old new : ReplicaState) (entry : Option Entry) (v : Verdict) → AreWithoutLimit new.decided → Applies old entry v new → Applies (freed old) entry v (freed new)
free-applies old new None v free p = (p.0, ap freed p.1)
free-applies old new (Some entry) v free p = free-applies-at (status_of old entry) old new entry v free p

-- ---- logs

free-runs : (log : List (Option Entry)) (old new : ReplicaState) → AreWithoutLimit new.decided → Runs old log new → Runs (freed old) log (freed new)
free-runs [] old new free p = ap freed p
free-runs (entry ∷ log) old new free p =
    let rest = runs-extends log p.0 new p.3 in
    let first = (first-without p.0.decided rest.0 (subst AreWithoutLimit rest.1 free)).0 in
    (freed p.0, p.1, free-applies old p.0 entry p.1 first p.2, free-runs log p.0 new free p.3)

pub limit_keeps_statements : LimitKeepsStatements
limit_keeps_statements limit log replica unlimited p q free =
    runs-one log (empty None) unlimited (freed replica) q (free-runs log (empty (Some limit)) replica free p)
