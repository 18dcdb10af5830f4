pub mod ReplyLemmas
pub mod LeaseHistoryLemmas
pub mod LeaseStandsLemmas
pub mod LeaseTimeLemmas
pub mod LeaseActsLemmas
pub mod LeaseLaws
pub mod LeaseEndingLaws
