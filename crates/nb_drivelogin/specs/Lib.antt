pub mod Described
pub mod DriveInfos
pub mod DriveLogins
pub mod DriveOpens
pub mod OwnNets
