pub mod FiniteMap
pub mod Stored
