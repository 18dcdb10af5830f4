pub mod Results
pub mod ScriptAgreement
pub mod Lawful
pub mod StateByLists
pub mod CourseEvents
