pub mod Labels
pub mod Extract
pub mod Parts
pub mod Walk
