pub mod Words
pub mod FiniteMapLemmas
pub mod PagesLemmas
pub mod Lists
pub mod MapReads
pub mod PageLemmas
