pub mod TalkStands
pub mod Tellings
pub mod Comings
pub mod Calls
