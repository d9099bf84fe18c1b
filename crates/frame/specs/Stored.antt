-- How a database is stored: entries, counts and parts, how the parts of a statement are found, and
-- the whole storage.
-- No public clause cites it.
pub mod EntryMeanings
pub mod Counts
pub mod AssertionParts
pub mod Hypotheses
pub mod EntrySizes
pub mod Labels
pub mod OneFrame
pub mod Naming
pub mod Ends
pub mod Stacks
pub mod MentionLists
pub mod PairLists
pub mod Whole
