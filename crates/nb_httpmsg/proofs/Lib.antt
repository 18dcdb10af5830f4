pub mod BlockLemmas
pub mod NumberLemmas
pub mod FieldLemmas
pub mod FeedLemmas
pub mod LeastLemmas
pub mod TrailerLemmas
pub mod FeedLeastLemmas
