pub mod Names
pub mod Records
pub mod Messages
pub mod Walks
pub mod Views
pub mod Sections
pub mod Reading
