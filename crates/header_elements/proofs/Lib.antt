pub mod Apart
pub mod Held
pub mod Known
pub mod Laws
pub mod Order
pub mod Storing
pub mod Writing
pub mod Blank
