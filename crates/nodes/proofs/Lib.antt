pub mod Words
pub mod PrefixLemmas
pub mod MomentLemmas
pub mod GoesOnLemmas
pub mod RunLemmas
pub mod BookLemmas
pub mod AccountLemmas
pub mod SharedLemmas
mod QuestionsLemmas
mod ReportLemmas
mod CountLemmas
pub mod DeskLemmas
