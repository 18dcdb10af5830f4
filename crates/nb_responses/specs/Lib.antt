pub mod Requests
pub mod Lines
pub mod Heads
pub mod Chunks
pub mod Responses
pub mod ReadingLaws
