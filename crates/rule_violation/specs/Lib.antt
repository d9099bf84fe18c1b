pub mod Search
pub mod Marks
pub mod Violations
pub mod Laws
