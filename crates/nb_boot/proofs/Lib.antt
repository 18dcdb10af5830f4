pub mod Spelled
pub mod Comparing
pub mod CourseInputs
pub mod Following
pub mod Standing
pub mod Written
pub mod InTurns
pub mod Goings
pub mod Cuttings
pub mod Fetching
pub mod Refills
pub mod Turned
pub mod Pieces
pub mod Last
pub mod Closings
pub mod BadRests
pub mod Waiting
pub mod Openings
pub mod Fronts
pub mod Attached
pub mod Completeness
pub mod Determining
pub mod EntryHistories
pub mod EntryAlone
pub mod EntryMoves
pub mod EntryComings
pub mod EntryFrames
pub mod EntryArrivals
pub mod EntryOpens
pub mod EntryPlaces
pub mod EntrySteps
pub mod Booted
pub mod Sectors
pub mod Showing
mod PortLemmas
mod PeerLemmas
mod WordLemmas
