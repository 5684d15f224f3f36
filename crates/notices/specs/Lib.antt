pub mod Notices
pub mod Code
pub mod Rising
pub mod Telling
pub mod Expiring
