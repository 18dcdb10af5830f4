pub mod RecordLaws
pub mod StartLaws
pub mod ScriptLaws
pub mod ItemLaws
