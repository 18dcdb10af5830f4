pub mod Values
pub mod Responses
