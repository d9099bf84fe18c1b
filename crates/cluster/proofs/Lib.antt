pub mod Words
mod CellsLemmas
mod CellLemmas
mod CellTieLemmas
mod CompareLemmas
