pub mod Passing
pub mod Chained
