pub mod Words
mod DecimalLemmas
mod WordsLemmas
mod LinesLemmas
mod EventsLemmas
mod Rows
