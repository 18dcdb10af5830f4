pub mod ReadingLemmas
pub mod EndLemmas
