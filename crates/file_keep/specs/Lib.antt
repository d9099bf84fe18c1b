pub mod Words
pub mod Rows
pub mod Tables
pub mod Keeps
pub mod NodeKeeps
