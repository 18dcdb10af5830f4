pub mod WrittenNames
pub mod Lookups
pub mod LookupCalls
pub mod LookupReplies
pub mod LookupPromises
pub mod LookupStands
pub mod Steps
pub mod LookupEndings
