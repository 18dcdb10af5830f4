pub mod Changes
pub mod Flat
pub mod GraphRun
pub mod Ledger
pub mod Settled
