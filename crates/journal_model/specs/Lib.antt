pub mod Journal
pub mod Counted
pub mod Exact
pub mod Numbers
pub mod Runs
pub mod Journalled
pub mod Stops
