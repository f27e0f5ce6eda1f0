pub mod Layout
pub mod StatusReport
pub mod Internal
