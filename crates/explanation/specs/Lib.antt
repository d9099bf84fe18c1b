pub mod Cut
pub mod Fronts
pub mod TokenPlaces
