pub mod WebAsks
pub mod WebEffects
pub mod WebTalks
