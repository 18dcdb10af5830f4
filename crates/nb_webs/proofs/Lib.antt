pub mod WebLaws
pub mod EntryLaws
pub mod StackLaws
