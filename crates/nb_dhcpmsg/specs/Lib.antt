pub mod Options
pub mod Messages
pub mod Views
pub mod Lefts
pub mod Fields
pub mod Inner
pub mod Streams
pub mod Collected
