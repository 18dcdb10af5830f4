pub mod Heads
pub mod PduTexts
pub mod Stages
pub mod Commands
pub mod KeyTexts
pub mod Requests
pub mod Answers
pub mod Streams
