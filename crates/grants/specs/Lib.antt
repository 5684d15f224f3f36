pub mod Grants
pub mod Code
pub mod Giving
pub mod Listing
