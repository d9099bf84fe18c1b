pub mod Codes
pub mod Stored
