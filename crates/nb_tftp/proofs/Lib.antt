pub mod BlockLemmas
pub mod ReceivedLemmas
pub mod AnswerLemmas
pub mod HistoryLemmas
pub mod StandsLemmas
pub mod CallLemmas
pub mod PlainLaws
mod SoundLemmas
pub mod FoundLemmas
pub mod LimitLaws
pub mod SilenceLemmas
pub mod EndLaws
pub mod CutLaws
pub mod TryLaws
pub mod AskedLaws
pub mod NewestLaws
