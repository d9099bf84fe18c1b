pub mod Words
pub mod SpanLemmas
pub mod StatementRecordLemmas
pub mod BufferPlaceLemmas
pub mod AddedStatement
pub mod MentionLemmas
pub mod MentionLogLemmas
