pub mod SiteFiles
pub mod References
pub mod PassState
pub mod Written
pub mod Progress
pub mod AssertionPages
