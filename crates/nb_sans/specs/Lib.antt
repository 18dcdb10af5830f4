pub mod Sessions
pub mod SessionLaws
pub mod SessionSteps
pub mod RecordNumbers
pub mod Targets
