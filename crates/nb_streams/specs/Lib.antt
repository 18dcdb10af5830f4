pub mod Segments
pub mod Streams
pub mod Flows
pub mod Carrying
pub mod Sending
pub mod Trying
pub mod Endings
