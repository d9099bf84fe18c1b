-- How words are stored, and which symbols are copied at once. No public clause cites it.
pub mod WordStorage
pub mod SpacedPrefix
