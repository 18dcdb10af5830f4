pub mod Frame
pub mod ArpText
