pub mod Words
pub mod PiecesLemmas
pub mod TextsLemmas
mod LineLemmas
pub mod ScriptsLemmas
mod CharterNameLemmas
mod Rows
