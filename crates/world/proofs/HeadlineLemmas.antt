-- The headline: logs of entries agree, the library of a log is a prefix of that of a longer one,
-- and each library of a log is good.
use Rattle.world.proofs.Words.{◌≡◌, ℕ, zero, suc, true, false, List, [], ◌∷◌, take, Option, Result, Ok, Err, inl, inr, refl, ap, sym, subst, IsOk, Entry, ReplicaState, IsLibraryOf, library-begins, library-good, Carried, StepFault, World, log, IsPrefixOf, Agree, History, world_of, Agreement, carried_size, entries_of, Database, Stmt, Good, IsProvable, HasDerivation, Headline, HeadlineHolds, RunBefore, GoesOn, goes_on, HeadlineGoesOn, HeadlinesGoOn, then_begins, beginnings_agree, agreement_of}
use Rattle.world.proofs.EntryLogs.{entries_agree}

-- the first n elements of a list are a prefix of it
take_begins : {A : Type 0} (n : ℕ) (xs : List A) → IsPrefixOf (take n xs) xs
take_begins zero xs = (xs, refl)
take_begins (suc n) [] = ([], refl)
take_begins (suc n) (x ∷ xs) = let rest = take_begins n xs in (rest.0, ap (λ ys. x ∷ ys) rest.1)

-- the first elements of two lists that agree do so too
takes_agree : {A : Type 0} (m n : ℕ) (xs ys : List A) → Agree xs ys → Agree (take m xs) (take n ys)
takes_agree m n xs ys (inl h) = beginnings_agree (take m xs) (take n ys) ys (then_begins (take m xs) xs ys (take_begins m xs) h) (take_begins n ys)
takes_agree m n xs ys (inr h) = beginnings_agree (take m xs) (take n ys) xs (take_begins m xs) (then_begins (take n ys) ys xs (take_begins n ys) h)

-- if two logs agree, the statements of their libraries under one limit do
statements_agree : (limit : Option ℕ) (xs ys : List (Option Entry)) (one other : ReplicaState) → Agree xs ys → IsLibraryOf limit xs one → IsLibraryOf limit ys other → Agree one.statements other.statements
statements_agree limit xs ys one other (inl h) p q =
    let more = library-begins limit xs h.0 one other p (subst (λ (es : List (Option Entry)). IsLibraryOf limit es other) (sym h.1) q) in inl (more.0, sym more.1)
statements_agree limit xs ys one other (inr h) p q =
    let more = library-begins limit ys h.0 other one q (subst (λ (es : List (Option Entry)). IsLibraryOf limit es one) (sym h.1) p) in inr (more.0, sym more.1)

-- if two logs agree, so do the statements of the libraries of their first entries
pub libraries_of_logs_agree : (limit : Option ℕ) (log other_log : List (Option Carried)) → Agree log other_log → (m n : ℕ) (one other : ReplicaState) → IsLibraryOf limit (take m (entries_of log)) one → IsLibraryOf limit (take n (entries_of other_log)) other → Agree one.statements other.statements
libraries_of_logs_agree limit log other_log agree m n one other p q =
    statements_agree limit (take m (entries_of log)) (take n (entries_of other_log)) one other (takes_agree m n (entries_of log) (entries_of other_log) (entries_agree log other_log agree)) p q

-- a provable assertion among good statements has a derivation
derivation_of : (S : Database) → Good S → (at : ℕ) (stmt : Stmt) → IsProvable S at stmt → HasDerivation S at
derivation_of S good at stmt provable =
    let proved = good.proved at stmt provable in
    record { stmt = proved.right.1.stmt; derivation = proved.right.0; stands = proved.right.1.stands; concludes = proved.right.1.concludes }

-- the headline holds of a history for which agreement holds
pub headline_of : (limit : Option ℕ) (history : History Carried) → Agreement carried_size history → Headline limit history
headline_of limit history agreement = record {
  agreement = agreement;
  libraries_agree = λ one other p q.
      libraries_of_logs_agree limit (log p.world p.node) (log q.world q.node) (agreement.logs_agree p.world q.world p.moment q.moment p.node q.node) p.count q.count one other p.of_log q.of_log;
  libraries_good = λ library p. library-good limit (take p.count (entries_of (log p.world p.node))) library p.of_log;
  derived = λ library p at stmt provable.
      derivation_of library.statements (library-good limit (take p.count (entries_of (log p.world p.node))) library p.of_log) at stmt provable;
}

-- the headline holds of each history that is taken
pub headline_holds : HeadlineHolds
headline_holds limit history new is = from_world (world_of carried_size history) refl is where
  from_world : (r : Result (World Carried) StepFault) → world_of carried_size history ≡ r → IsOk r → Headline limit history
  from_world (Ok w) after ok = headline_of limit history (agreement_of carried_size history w new after)
  from_world (Err fault) after ok = let no : false ≡ true = ok in cc

-- a refusal is no result
not_ok : false ≡ true → ⊥
not_ok is = cc

-- the headline holds of a history and the run before it, if agreement holds of both as one run
headline_of_both : (limit : Option ℕ) (history : History Carried) (before : RunBefore carried_size history) → GoesOn carried_size history before → HeadlineGoesOn limit history before
headline_of_both limit history before goes = record {
  one_run = goes;
  libraries_agree = λ one other p q.
      libraries_of_logs_agree limit (log p.world p.node) (log q.world q.node) (goes.logs_agree p.world q.world p.moment q.moment p.node q.node) p.count q.count one other p.of_log q.of_log;
  libraries_good = λ library p. library-good limit (take p.count (entries_of (log p.world p.node))) library p.of_log;
  derived = λ library p at stmt provable.
      derivation_of library.statements (library-good limit (take p.count (entries_of (log p.world p.node))) library p.of_log) at stmt provable;
}

-- so it holds of each history that is taken and of each run that left what its nodes begin with
pub headlines_go_on : HeadlinesGoOn
headlines_go_on limit history is before = from_world (world_of carried_size history) refl is where
  from_world : (r : Result (World Carried) StepFault) → world_of carried_size history ≡ r → IsOk r → HeadlineGoesOn limit history before
  from_world (Ok w) after ok = headline_of_both limit history before (goes_on carried_size history before w after)
  from_world (Err fault) after ok = absurd (not_ok ok)
