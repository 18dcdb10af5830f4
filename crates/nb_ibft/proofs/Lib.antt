pub mod TextLemmas
pub mod FieldLemmas
pub mod TargetLemmas
pub mod InfoLemmas
pub mod JoinLemmas
pub mod SumLemmas
