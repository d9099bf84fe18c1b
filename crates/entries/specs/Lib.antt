pub mod Hypotheses
pub mod Entries
pub mod Mentions
pub mod Stored
