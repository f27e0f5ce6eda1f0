pub mod Layout
pub mod Internal
pub mod Demand
pub mod Cut
