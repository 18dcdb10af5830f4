pub mod Speakers
pub mod Tellings
pub mod Deliveries
pub mod Spelling
pub mod Put
