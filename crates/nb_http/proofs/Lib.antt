pub mod StandsLemmas
pub mod LeastLemmas
pub mod StepLemmas
pub mod DecidedLemmas
pub mod HeadLemmas
pub mod RunLaws
