pub mod Cases
pub mod Inverse
pub mod Defaults
