pub mod DriveEffectLemmas
pub mod StreamCutLemmas
pub mod SessionLemmas
pub mod LoginAnswerLemmas
pub mod AskLemmas
pub mod UnitLemmas
pub mod UnitAnswerLemmas
pub mod UnitTalkLemmas
