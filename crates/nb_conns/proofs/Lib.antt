pub mod WindowLemmas
pub mod TakenLemmas
pub mod BodyLemmas
pub mod EffectLemmas
pub mod DialogueLemmas
pub mod TalkLemmas
