pub mod Causes
pub mod Records
pub mod ScriptText
pub mod ScriptLines
pub mod Commands
pub mod Parts
