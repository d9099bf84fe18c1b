mod NumberLemmas
pub mod EscapeLemmas
pub mod ReadingLemmas
