pub mod DriveCalls
pub mod DriveChains
