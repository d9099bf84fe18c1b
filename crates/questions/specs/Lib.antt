pub mod SoFar
pub mod AllFaults
pub mod Searches
pub mod Shown
