pub mod Number
pub mod Inverse
pub mod BitPlaces
pub mod Packing
