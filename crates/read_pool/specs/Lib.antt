pub mod Cut
pub mod Concatenation
