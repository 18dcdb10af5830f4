pub mod WorkLemmas
pub mod StepLemmas
pub mod StandsLemmas
pub mod EndingLemmas
pub mod CauseLemmas
pub mod AskingLaws
