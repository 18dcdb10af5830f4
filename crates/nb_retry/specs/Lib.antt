pub mod Plans
pub mod Timer
pub mod Calls
