pub mod FirstLine
pub mod Images
pub mod Kinds
pub mod Pages
pub mod Parts
