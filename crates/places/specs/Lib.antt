pub mod Lines
pub mod TokenSpans
pub mod CommentFaults
pub mod Descriptions
pub mod Walk
pub mod Misread
pub mod RefusedBytes
