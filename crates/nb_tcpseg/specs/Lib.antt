pub mod Options
pub mod SegmentText
