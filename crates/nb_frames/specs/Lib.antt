pub mod Within
pub mod Frames
