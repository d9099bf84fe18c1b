pub mod Statements
pub mod Reads
pub mod StatementParts
pub mod Next
pub mod Export
pub mod Laws
