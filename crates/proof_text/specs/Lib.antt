pub mod ProofTexts
pub mod Requests
pub mod Spelled
