pub mod Blocks
pub mod Fields
pub mod HeadInfos
pub mod Reader
pub mod Feeding
pub mod Leasts
