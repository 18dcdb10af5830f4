pub mod Pings
pub mod PingCalls
pub mod PingPromises
pub mod PingStands
pub mod PingSteps
pub mod PingEndings
