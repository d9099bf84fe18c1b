pub mod Words
mod TreesLemmas
mod PrintedNumbers
mod Rows
