pub mod StepStart
pub mod Steps
pub mod Posts
pub mod RunView
pub mod Labels
pub mod Elements
pub mod Picture
