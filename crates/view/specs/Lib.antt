pub mod View
pub mod Rows
pub mod Lent
