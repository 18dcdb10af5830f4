pub mod NumberLemmas
pub mod AddressLemmas
