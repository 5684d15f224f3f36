pub mod Probes
pub mod HandlesView
pub mod Listed
