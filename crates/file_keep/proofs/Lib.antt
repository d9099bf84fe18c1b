pub mod Words
pub mod RowLemmas
pub mod TableLemmas
pub mod KeepLemmas
