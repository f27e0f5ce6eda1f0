pub mod Output
pub mod Hexadecimal
