pub mod Slots
pub mod Rooms
pub mod Leases
pub mod Memories
pub mod Rings
pub mod Windows
pub mod HeldWindows
