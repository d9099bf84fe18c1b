-- Images stored by number, symbols appended to a buffer, sets of symbols, and the variables of
-- images. Public clauses cite only `Appends`, `has_number` and `is_numbered_variable` of these.
pub mod ImageTables
pub mod Written
pub mod SymbolSets
pub mod VariableLists
