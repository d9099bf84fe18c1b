-- A log has at most one library, which only grows and is good.
use Rattle.library.proofs.Words.{◌≡◌, ℕ, List, [], ◌∷◌, ◌++◌, Option, Some, None, refl, sym, ◌∙◌, ap, subst, append-nil, append_assoc, both_ways, Stmt, Database, IsProvable, Submission, Text, Charter, Verdict, Added, Refused, may_declare, Good, ReplicaState, empty, status_of, decided_with, Decides, AppliesAt, Applies, Runs, IsLibraryOf, Entry}
use Rattle.library.proofs.CausesLemmas.{IsVerdict, one-verdict, one-reading}

-- ---- one verdict and one replica

text-verdict : (old new : ReplicaState) (submission : Submission) (v : Verdict) → Decides old (Text submission) v new
    → IsVerdict old.limit old.statements old.charter submission v
text-verdict old new submission Added p = (p.0, p.1)
text-verdict old new submission (Refused cause) p = p.0
text-verdict old new submission v p = p

text-replica : (old new other : ReplicaState) (submission : Submission) (v : Verdict) → Decides old (Text submission) v new → Decides old (Text submission) v other → new ≡ other
text-replica old new other submission Added p q =
    p.2 ∙ (ap (λ T. record old { statements = old.statements ++ T; decided = decided_with old.decided (Text submission) Added })
    (one-reading submission.text p.0 q.0 p.1.outcome_is.0.readable.read q.1.outcome_is.0.readable.read) ∙ sym q.2)
text-replica old new other submission (Refused cause) p q = p.1 ∙ sym q.1
text-replica old new other submission v p q = absurd p

decides-one : (old new other : ReplicaState) (entry : Entry) (v w : Verdict) → Decides old entry v new → Decides old entry w other → (v ≡ w) × (new ≡ other)
decides-one old new other (Text submission) v w p q =
    let same = one-verdict old.limit old.statements old.charter submission v w (text-verdict old new submission v p) (text-verdict old other submission w q) in
    (same, text-replica old new other submission w (subst (λ u. Decides old (Text submission) u new) same p) q)
decides-one old new other (Charter author serial names) Added Added p q = (refl, p.1 ∙ sym q.1)
decides-one old new other (Charter author serial names) Added (Refused c) p q = absurd (both_ways (may_declare old.charter author) q.0 p.0)
decides-one old new other (Charter author serial names) (Refused c) Added p q = absurd (both_ways (may_declare old.charter author) p.0 q.0)
decides-one old new other (Charter author serial names) (Refused c) (Refused d) p q =
    let same : c ≡ d = p.1 ∙ sym q.1 in
    (ap Refused same, p.2 ∙ (ap (λ e. record old { decided = decided_with old.decided (Charter author serial names) (Refused e) }) same ∙ sym q.2))
decides-one old new other (Charter author serial names) Added w p q = absurd q
decides-one old new other (Charter author serial names) (Refused c) w p q = absurd q
decides-one old new other (Charter author serial names) v w p q = absurd p

applies-at-one : (first : Option Verdict) (old new other : ReplicaState) (entry : Entry) (v w : Verdict) → AppliesAt first old entry v new → AppliesAt first old entry w other → (v ≡ w) × (new ≡ other)
applies-at-one (Some first) old new other entry v w p q = (p.0 ∙ sym q.0, p.1 ∙ sym q.1)
applies-at-one None old new other entry v w p q = decides-one old new other entry v w p q

-- the replica and the verdict that an entry makes of a replica are unique
pub applies-determined : (old new other : ReplicaState) (entry : Option Entry) (v w : Verdict) → Applies old entry v new → Applies old entry w other → (v ≡ w) × (new ≡ other)
applies-determined old new other None v w p q = (p.0 ∙ sym q.0, p.1 ∙ sym q.1)
applies-determined old new other (Some entry) v w p q = applies-at-one (status_of old entry) old new other entry v w p q

-- ---- the list of statements only grows, and stays good

abbrev pub Grows : ReplicaState → ReplicaState → Type 0
Grows old new = (more : Database) × (new.statements ≡ old.statements ++ more)

abbrev pub Continues : ReplicaState → ReplicaState → Type 0
Continues old new = Grows old new × (Good old.statements → Good new.statements)

-- a replica with the same statements continues the old one
stays : (old new : ReplicaState) → new.statements ≡ old.statements → Continues old new
stays old new e = (([], e ∙ sym (append-nil old.statements)), λ good. subst Good (sym e) good)

decides-continues : (old new : ReplicaState) (entry : Entry) (v : Verdict) → Decides old entry v new → Continues old new
decides-continues old new (Text submission) Added p = let same = ap (λ r. r.statements) p.2 in ((p.0, same), λ good. subst Good (sym same) p.1.outcome_is.2)
decides-continues old new (Text submission) (Refused cause) p = stays old new (ap (λ r. r.statements) p.1)
decides-continues old new (Charter author serial names) Added p = stays old new (ap (λ r. r.statements) p.1)
decides-continues old new (Charter author serial names) (Refused cause) p = stays old new (ap (λ r. r.statements) p.2)
decides-continues old new entry v p = absurd p

applies-at-continues : (first : Option Verdict) (old new : ReplicaState) (entry : Entry) (v : Verdict) → AppliesAt first old entry v new → Continues old new
applies-at-continues (Some first) old new entry v p = stays old new (ap (λ r. r.statements) p.1)
applies-at-continues None old new entry v p = decides-continues old new entry v p

applies-continues : (old new : ReplicaState) (entry : Option Entry) (v : Verdict) → Applies old entry v new → Continues old new
applies-continues old new None v p = stays old new (ap (λ r. r.statements) p.1)
applies-continues old new (Some entry) v p = applies-at-continues (status_of old entry) old new entry v p

pub good-empty : Good []
good-empty = record { legal = refl; proved = λ at s p. absurd (none at s p) }
  where
    none : (at : ℕ) (s : Stmt) → IsProvable [] at s → ⊥
    none Rattle.std.specs.Prelude.zero s p = absurd (let e = p.stands in cc)
    none (Rattle.std.specs.Prelude.suc n) s p = absurd (let e = p.stands in cc)

-- ---- logs

pub runs-one : (log : List (Option Entry)) (old new other : ReplicaState) → Runs old log new → Runs old log other → new ≡ other
runs-one [] old new other p q = p ∙ sym q
runs-one (entry ∷ log) old new other p q =
    let same = (applies-determined old p.0 q.0 entry p.1 q.1 p.2 q.2).1 in
    runs-one log q.0 new other (subst (λ r. Runs r log new) same p.3) q.3

runs-append : (log more : List (Option Entry)) (old mid new : ReplicaState) → Runs old log mid → Runs mid more new → Runs old (log ++ more) new
runs-append [] more old mid new p q = subst (λ r. Runs r more new) p q
runs-append (entry ∷ log) more old mid new p q = (p.0, p.1, p.2, runs-append log more p.0 mid new p.3 q)

runs-split : (log more : List (Option Entry)) (old new : ReplicaState) → Runs old (log ++ more) new → (mid : ReplicaState) × Runs old log mid × Runs mid more new
runs-split [] more old new p = (old, refl, p)
runs-split (entry ∷ log) more old new p =
    let rest = runs-split log more p.0 new p.3 in
    (rest.0, (p.0, p.1, p.2, rest.1), rest.2)

runs-continues : (log : List (Option Entry)) (old new : ReplicaState) → Runs old log new → Continues old new
runs-continues [] old new p = stays old new (ap (λ r. r.statements) p)
runs-continues (entry ∷ log) old new p =
    let first = applies-continues old p.0 entry p.1 p.2 in
    let rest = runs-continues log p.0 new p.3 in
    let one = first.0 in
    let all = rest.0 in
    ((one.0 ++ all.0, all.1 ∙ (ap (λ S. S ++ all.0) one.1 ∙ append_assoc old.statements one.0 all.0)), λ good. rest.1 (first.1 good))

-- the library of a log with one more entry
pub library-more : (limit : Option ℕ) (log : List (Option Entry)) (old new : ReplicaState) (entry : Option Entry) (v : Verdict)
    → IsLibraryOf limit log old → Applies old entry v new → IsLibraryOf limit (log ++ entry ∷ []) new
library-more limit log old new entry v p q = runs-append log (entry ∷ []) (empty limit) old new p (new, v, q, refl)

-- the statements of the library of a log are the first ones of the library of a longer log
pub library-begins : (limit : Option ℕ) (log more : List (Option Entry)) (one all : ReplicaState) → IsLibraryOf limit log one → IsLibraryOf limit (log ++ more) all → Grows one all
library-begins limit log more one all p q =
    let cut = runs-split log more (empty limit) all q in
    (runs-continues more one all (subst (λ r. Runs r more all) (runs-one log (empty limit) cut.0 one cut.1 p) cut.2)).0

pub library-good : (limit : Option ℕ) (log : List (Option Entry)) (replica : ReplicaState) → IsLibraryOf limit log replica → Good replica.statements
library-good limit log replica p = (runs-continues log (empty limit) replica p).1 good-empty
