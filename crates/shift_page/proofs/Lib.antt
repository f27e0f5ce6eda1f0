pub mod Lines
pub mod Checks
pub mod Page
pub mod Trimmed
pub mod Told
