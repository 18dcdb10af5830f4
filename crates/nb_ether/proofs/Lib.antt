pub mod ArpLaws
pub mod FrameLaws
