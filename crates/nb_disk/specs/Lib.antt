pub mod Histories
pub mod DiskAnswers
pub mod DiskEndings
pub mod DiskStands
pub mod Steps
pub mod BlockReads
