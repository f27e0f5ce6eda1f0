pub mod Layout
pub mod Internal
pub mod Submit
