pub mod Standings
pub mod Sessions
pub mod OpenEndings
pub mod OpenReasons
