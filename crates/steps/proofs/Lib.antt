pub mod Words
pub mod KnownMapLemmas
pub mod DraftLemmas
pub mod DraftRowLemmas
pub mod PlacingLemmas
pub mod CiteLemmas
pub mod DraftedItemLemmas
pub mod SoundLemmas
pub mod ListeningLemmas
pub mod PremiseLemmas
pub mod EssentialMarkLemmas
pub mod MarkedPlaceLemmas
pub mod UnfoldLemmas
mod SoFarLemmas
mod KnownPartLemmas
