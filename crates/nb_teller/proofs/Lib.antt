pub mod TellingLemmas
pub mod RowLemmas
pub mod SpellingLemmas
pub mod Tellers
pub mod Sendings
