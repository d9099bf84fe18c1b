pub mod FrontLemmas
pub mod PairLemmas
