pub mod Words
pub mod LettersLemmas
pub mod RowOfNumbers
pub mod LetterItemLemmas
pub mod TextLemmas
pub mod WritesLemmas
pub mod AnswersLemmas
pub mod OneList
pub mod LabelNameLemmas
pub mod ListingLemmas
pub mod ListedLanes
pub mod ReadProofLemmas
pub mod StepLemmas
mod Rows
