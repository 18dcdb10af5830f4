pub mod Kinds
pub mod Chains
pub mod Giving
pub mod Ends
pub mod Shapes
pub mod Calls
