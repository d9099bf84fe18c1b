pub mod Words
pub mod GrowingLists
pub mod Beginnings
mod Ledger
mod LedgerGrows
mod LedgerSteps
mod Invariant
mod StepsContinue
mod AcceptorSteps
mod LearnerSteps
mod QuorumHeard
mod ProposerSteps
mod PromiseSteps
pub mod EveryEvent
pub mod TwoMoments
pub mod OwnNumbers
mod OneValue
mod LaterBallots
mod ChosenAgree
mod LogsAgree
mod Offered
pub mod KeptPartLemmas
pub mod LogsGrow
pub mod AgreementLemmas
mod Rows
pub mod HistoryLemmas
pub mod NodeStatesLemmas
mod CrashLemmas
mod UnderWayLemmas
pub mod ResumedLemmas
pub mod BeginsAgainLemmas
pub mod EventsStaged
pub mod StepsStaged
pub mod StagedTaken
