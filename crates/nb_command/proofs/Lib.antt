pub mod CommandNameLemmas
pub mod PutLemmas
pub mod OtherSettings
pub mod AddressLemmas
pub mod OtherCommands
pub mod PrintedLemmas
