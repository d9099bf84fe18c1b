pub mod FirstStop
pub mod Jobs
pub mod Stripes
pub mod Laws
