pub mod Eithers
pub mod Words
