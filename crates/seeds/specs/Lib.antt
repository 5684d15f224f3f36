pub mod Seeds
pub mod Code
pub mod SeedsView
