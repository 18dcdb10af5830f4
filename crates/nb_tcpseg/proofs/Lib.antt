pub mod OptionLemmas
pub mod HeaderLemmas
pub mod SentLemmas
pub mod PseudoLemmas
