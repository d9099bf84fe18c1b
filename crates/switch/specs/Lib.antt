pub mod Words
pub mod NodeStore
pub mod Switch
pub mod LogPrefixes
