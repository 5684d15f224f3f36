pub mod Rings
pub mod Matches
pub mod Laws
pub mod Sweep
pub mod Code
pub mod Search
pub mod Lent
