pub mod Report
pub mod Internal
