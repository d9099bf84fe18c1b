pub mod Answers
pub mod Played
pub mod Stored
pub mod Recovery
