pub mod TextLemmas
pub mod DecimalLemmas
pub mod OptionLemmas
pub mod PacketLemmas
pub mod WrittenLemmas
