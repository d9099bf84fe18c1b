pub mod Letters
pub mod Writes
pub mod ItemNumbers
pub mod Text
pub mod Listing
pub mod LabelSets
pub mod Reading
pub mod Laws
