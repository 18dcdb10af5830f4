pub mod LengthLemmas
pub mod PlainLemmas
