pub mod Infos
pub mod Tables
pub mod Views
pub mod Readings
pub mod Places
