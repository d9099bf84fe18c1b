pub mod Words
mod Members
pub mod SymbolRangeLemmas
pub mod ImageRangesLemmas
mod ImageTableLemmas
pub mod VariableListLemmas
pub mod DisjointImageLemmas
mod WrittenImages
mod AlikeLemmas
pub mod MatchLemmas
mod CopyLemmas
pub mod SubstitutionLemmas
pub mod DisjointLemmas
mod Rows
pub mod GroupLemmas
pub mod PairwiseLemmas
pub mod PastLemmas
