pub mod Pieces
pub mod Addresses
pub mod IscsiNames
pub mod IscsiViews
pub mod ImageNames
pub mod Resolutions
pub mod Refusals
