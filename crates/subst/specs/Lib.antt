pub mod Words
pub mod SymbolRanges
pub mod Images
pub mod DisjointImages
pub mod ReadImages
pub mod Laws
pub mod Stored
pub mod Violations
