pub mod Tellings
pub mod SessionStands
pub mod Comings
pub mod Calls
pub mod Orders
