pub mod Exact
pub mod Runs
pub mod Journalled
pub mod Stops
