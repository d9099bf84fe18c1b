pub mod Words
pub mod BeginLemmas
pub mod TokenSpanLemmas
pub mod DescriptionLemmas
pub mod SkipLemmas
pub mod CommentFaultLemmas
pub mod LaidOutLemmas
pub mod MisreadLemmas
pub mod RefusedByteLemmas
mod Rows
