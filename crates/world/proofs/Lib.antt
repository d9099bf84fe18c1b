pub mod Words
pub mod EntryLogs
pub mod HeadlineLemmas
pub mod WorldViewLemmas
mod AppliedNext
