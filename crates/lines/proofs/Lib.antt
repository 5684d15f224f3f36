pub mod LineLaws
pub mod RoundTrip
pub mod Cuts
pub mod Again
