pub mod BytesLaws
pub mod ChecksumLaws
pub mod TurnedLaws
