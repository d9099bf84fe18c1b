-- The headline theorem: the logs agree; of any two nodes' libraries, at any two moments, under one
-- limit on work or none, the statements of one are a prefix of the other's; the statements of each
-- library are good; and each of its provable assertions has a derivation. It holds across crashes of
-- the whole process too.
-- Source: Lamport, Paxos Made Simple, section 3; Megill and Wheeler, Metamath, 2nd ed. 2019, 4.2.
-- No code computes this; it follows from agreement and from the definition of the library of a log.
use Rattle.std.specs.Prelude.{◌≡◌, ℕ, Option, Some, IsOk, take}
use Rattle.world.specs.Words.{Stmt, Database, bares, stmt_at, expr_of, Derivation, Concludes, IsProvable, ReplicaState, IsLibraryOf, Good, World, log, Agree, BeginsNew, History, world_of, IsMoment, Agreement, RunBefore, IsMomentOfEither, GoesOn}
use Rattle.world.specs.declared.carried.Carried.{Carried}
use Rattle.world.specs.Carried.{carried_size, entries_of}

-- a library of the history under the limit on work: that of some number of first entries of a
-- node's log, in the world of `net` at some moment
pub record IsLibraryIn (limit : Option ℕ) (history : History Carried) (library : ReplicaState) : Type 0 where
  pub world : World Carried
  pub moment : IsMoment carried_size history world
  pub node : ℕ
  pub count : ℕ
  pub of_log : IsLibraryOf limit (take count (entries_of (log world node))) library

-- the expression of the assertion at that position has a derivation from the hypotheses active
-- there; each of its steps is an instance of an earlier assertion, by a substitution that meets the
-- disjoint variable conditions
pub record HasDerivation (S : Database) (at : ℕ) : Type 0 where
  pub stmt : Stmt
  pub derivation : Derivation
  pub stands : stmt_at (bares S) at ≡ Some stmt
  pub concludes : Concludes (bares S) at derivation (expr_of stmt)

pub record Headline (limit : Option ℕ) (history : History Carried) : Type 0 where
  -- agreement on the logs
  pub agreement : Agreement carried_size history
  -- the statements of one of any two libraries of the history are a prefix of the other's
  pub libraries_agree : (one other : ReplicaState) → IsLibraryIn limit history one → IsLibraryIn limit history other → Agree one.statements other.statements
  -- the statements of each of them are good, and each of its provable assertions has a derivation
  pub libraries_good : (library : ReplicaState) → IsLibraryIn limit history library → Good library.statements
  pub derived : (library : ReplicaState) → IsLibraryIn limit history library → (at : ℕ) (stmt : Stmt) → IsProvable library.statements at stmt → HasDerivation library.statements at

-- the headline holds of every history of new nodes in which no event meets a fault, under every
-- limit on work
abbrev pub HeadlineHolds : Type 0
HeadlineHolds = (limit : Option ℕ) (history : History Carried) → BeginsNew history → IsOk (world_of carried_size history) → Headline limit history

-- Across crashes.

-- a library of the history, or of the run before it, under the limit on work: that of some number of
-- first entries of a node's log, in the world at some moment of either
pub record IsLibraryOfEither (limit : Option ℕ) (history : History Carried) (before : RunBefore carried_size history) (library : ReplicaState) : Type 0 where
  pub world : World Carried
  pub moment : IsMomentOfEither before world
  pub node : ℕ
  pub count : ℕ
  pub of_log : IsLibraryOf limit (take count (entries_of (log world node))) library

-- the history of a process whose nodes begin with what an earlier run left, and that run
pub record HeadlineGoesOn (limit : Option ℕ) (history : History Carried) (before : RunBefore carried_size history) : Type 0 where
  -- agreement on the logs of both as one run
  pub one_run : GoesOn carried_size history before
  -- the statements of one of any two libraries of either are a prefix of the other's
  pub libraries_agree : (one other : ReplicaState) → IsLibraryOfEither limit history before one → IsLibraryOfEither limit history before other → Agree one.statements other.statements
  -- the statements of each of them are good, and each of its provable assertions has a derivation
  pub libraries_good : (library : ReplicaState) → IsLibraryOfEither limit history before library → Good library.statements
  pub derived : (library : ReplicaState) → IsLibraryOfEither limit history before library → (at : ℕ) (stmt : Stmt) → IsProvable library.statements at stmt → HasDerivation library.statements at

-- the headline holds, under every limit on work, of every history in which no event meets a fault and
-- of each run that left what its nodes begin with
abbrev pub HeadlinesGoOn : Type 0
HeadlinesGoOn = (limit : Option ℕ) (history : History Carried) → IsOk (world_of carried_size history) → (before : RunBefore carried_size history) → HeadlineGoesOn limit history before
