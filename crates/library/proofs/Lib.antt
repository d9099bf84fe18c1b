pub mod Words
pub mod UnprovedLemmas
pub mod QueriesLemmas
pub mod CitationWalkLemmas
pub mod CitedByLemmas
pub mod MayCiteLemmas
pub mod UseMarkLemmas
pub mod MeetingLemmas
pub mod FrontLemmas
pub mod GoodLemmas
pub mod JoinedRulesLemmas
pub mod CausesLemmas
pub mod LibraryLemmas
pub mod AddingLemmas
pub mod AheadLemmas
pub mod ProvingLemmas
pub mod CheckedDatabaseLemmas
pub mod WorkLemmas
pub mod ProofWorkLemmas
mod LeavingLemmas
mod UnlimitedLibraryLemmas
mod PlainLibraryLemmas
mod LimitLemmas
mod Rows
mod WorkRows
mod TextLemmas
pub mod DecidedLemmas
