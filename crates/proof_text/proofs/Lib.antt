pub mod StepsLemmas
pub mod SpelledLemmas
pub mod RequestLemmas
pub mod TextLemmas
