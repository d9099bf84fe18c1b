pub mod LineWords
pub mod LineLemmas
pub mod HypothesesLemmas
pub mod EssentialLineLemmas
pub mod LabelPatternLemmas
pub mod DeclaredLemmas
mod Rows
pub mod PatternPrelude
pub mod WordsLemmas
pub mod SegmentLemmas
pub mod PatternLemmas
pub mod HasWordLemmas
mod PatternRows
