-- How a scope is stored: its stacks and counts, the kinds of names, the numbers that it records,
-- and sorted words. Public clauses cite only `AreRecorded` and `IsAppended`.
pub mod Stacks
pub mod KindCounts
pub mod SymbolNumbers
pub mod Ordered
