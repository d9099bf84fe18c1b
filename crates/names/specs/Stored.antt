-- How names are stored: keys, the table of slots, the overflow, and the bytes. No public clause
-- cites these.
pub mod Keys
pub mod Overflow
pub mod Table
pub mod NameList
