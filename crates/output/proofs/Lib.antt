pub mod Laws
pub mod Digits
pub mod Fields
