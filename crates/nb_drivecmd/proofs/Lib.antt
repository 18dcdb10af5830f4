pub mod Finding
pub mod LongNames
pub mod NameTexts
pub mod Numbering
pub mod OptionSpelling
