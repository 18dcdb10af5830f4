pub mod WrittenLemmas
pub mod CallsLemmas
pub mod ReplyLemmas
pub mod StandsLemmas
pub mod LookupLaws
pub mod SimpleLemmas
