pub mod MakingDrive
pub mod BesideDrives
