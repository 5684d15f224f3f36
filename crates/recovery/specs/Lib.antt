pub mod Steps
pub mod Replays
