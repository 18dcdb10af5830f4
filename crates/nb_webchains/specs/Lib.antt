pub mod WebChains
pub mod Plugs
pub mod Releases
pub mod Orders
pub mod WebCalls
