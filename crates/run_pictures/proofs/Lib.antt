pub mod Words
mod StepsLemmas
mod StumpsLemmas
mod AppendLemmas
mod RunLemmas
