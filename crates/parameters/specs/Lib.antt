pub mod Optional
pub mod Outcome
pub mod Parameters
pub mod Layout
pub mod Checking
pub mod Limits
pub mod Internal
