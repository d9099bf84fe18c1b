pub mod Words
pub mod LabelsLemmas
pub mod ExtractLemmas
pub mod ParallelLemmas
pub mod SameLemmas
