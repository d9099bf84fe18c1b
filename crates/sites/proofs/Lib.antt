pub mod Words
pub mod SiteLemmas
pub mod PageLemmas
pub mod ReferenceWords
pub mod ListLemmas
pub mod CitationLemmas
pub mod PassLemmas
