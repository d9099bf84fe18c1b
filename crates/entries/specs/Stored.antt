-- How statements and mentions are stored. Public clauses cite only `Extends`, `AreSpansIn` and
-- `cut`.
pub mod Spans
pub mod Records
pub mod MentionLog
