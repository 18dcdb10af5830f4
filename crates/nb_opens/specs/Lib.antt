pub mod Entries
pub mod Marks
pub mod Notices
pub mod Pairs
pub mod AloneNotices
pub mod Alones
