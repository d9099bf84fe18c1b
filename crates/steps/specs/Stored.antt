-- The state of the code while a table of steps is made and marked. No public clause uses it.
pub mod Drafted
pub mod Marked
