pub mod WebLemmas
pub mod AnswerLemmas
