pub mod Texts
pub mod Options
pub mod Packets
pub mod Views
pub mod Reading
pub mod FoundViews
