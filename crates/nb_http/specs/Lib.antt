pub mod Standing
pub mod HeadReading
pub mod Giving
pub mod Runs
