pub mod DescribedLemmas
pub mod PrefixLemmas
pub mod SentNames
pub mod ShortNames
pub mod ShortTexts
pub mod UnusedSecrets
