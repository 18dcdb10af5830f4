pub mod DriveTags
pub mod DriveAsks
pub mod SessionNotes
pub mod DriveEffects
pub mod StreamCuts
pub mod SessionTalks
pub mod UnitAnswers
pub mod UnitTalks
