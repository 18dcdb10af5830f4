pub mod Words
pub mod Delivering
pub mod Runs
pub mod Keeping
pub mod Playing
pub mod Shows
