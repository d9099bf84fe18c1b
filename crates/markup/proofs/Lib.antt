pub mod AppendLemmas
pub mod MarkupLemmas
pub mod PageLemmas
