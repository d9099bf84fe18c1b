pub mod Words
pub mod AppendLemmas
pub mod WritingLemmas
pub mod BlockWords
pub mod WrappedLemmas
pub mod FrameLemmas
pub mod PositionLemmas
pub mod ColourLemmas
pub mod GroupLemmas
mod BlockRows
