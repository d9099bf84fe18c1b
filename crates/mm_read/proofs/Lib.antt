pub mod Words
pub mod StatementsLemmas
pub mod SpacedLemmas
pub mod OneStatementList
pub mod ReaderStates
pub mod ReaderRuns
pub mod ShapeFaults
pub mod PartFaults
pub mod AfterFaults
pub mod PartLemmas
pub mod StatementByStatement
pub mod OneReading
pub mod ExportReads
pub mod JoinedReads
mod Rows
pub mod NextLemmas
