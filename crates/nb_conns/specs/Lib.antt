pub mod StreamTags
pub mod ConnAsks
pub mod ConnLoads
pub mod ConnEffects
pub mod Dialogues
