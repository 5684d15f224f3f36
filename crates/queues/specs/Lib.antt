pub mod Queues
pub mod Code
pub mod Entering
pub mod Asking
pub mod Carrying
pub mod Leaving
pub mod Sparing
pub mod Queued
