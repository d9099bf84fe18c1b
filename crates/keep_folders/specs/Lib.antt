pub mod FoundFiles
pub mod StoredLines
