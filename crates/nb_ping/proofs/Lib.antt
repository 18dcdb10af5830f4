pub mod PingCallsLemmas
pub mod PingStandsLemmas
pub mod PingLaws
pub mod PingSimpleLemmas
