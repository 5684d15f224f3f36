pub mod Rule
pub mod ShareProof
pub mod Share
pub mod Charges
pub mod Step
pub mod Examples
