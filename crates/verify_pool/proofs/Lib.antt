pub mod Words
pub mod FirstStopLemmas
pub mod FirstWrongLemmas
pub mod StripeLemmas
pub mod JobsLemmas
