mod BeginLemmas
mod BreakLemmas
mod FeedLemmas
mod FillerLemmas
mod FixedLemmas
mod KnownLemmas
mod NoteLemmas
pub mod LogLemmas
pub mod OutsideLemmas
mod PartialLemmas
mod SpellingLemmas
mod StartLemmas
mod WholeLemmas
