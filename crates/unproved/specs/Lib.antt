pub mod Unproved
pub mod StatementRanges
pub mod LegalPart
pub mod Laws
