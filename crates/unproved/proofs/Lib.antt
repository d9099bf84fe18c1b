pub mod Words
pub mod UnprovedLemmas
pub mod AssumedLemmas
pub mod PlainLemmas
pub mod PlainRightLemmas
pub mod AssumedGoodLemmas
mod RangeLemmas
pub mod LegalPartLemmas
