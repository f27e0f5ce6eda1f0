pub mod Ucs2
pub mod Shown
