pub mod PlaceLemmas
pub mod StandLemmas
pub mod ChangeLemmas
pub mod StepLemmas
pub mod PortLemmas
pub mod CountLemmas
pub mod RunLemmas
pub mod SettleLemmas
