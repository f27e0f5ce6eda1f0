pub mod Characters
pub mod Shown
pub mod Laws
pub mod Stepwise
