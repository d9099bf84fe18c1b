pub mod Words
pub mod SearchLemmas
pub mod MarksLemmas
pub mod ViolationLemmas
pub mod BreaksLemmas
