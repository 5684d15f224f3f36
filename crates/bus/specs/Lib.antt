pub mod Code
pub mod Lent
