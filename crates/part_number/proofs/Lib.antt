pub mod Walk
pub mod Range
pub mod Blank
