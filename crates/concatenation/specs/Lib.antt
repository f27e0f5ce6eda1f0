pub mod Cutting
pub mod Messages
pub mod Received
pub mod Internal
