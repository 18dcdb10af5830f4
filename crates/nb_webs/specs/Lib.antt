pub mod Webs
pub mod Entries
pub mod Stacks
