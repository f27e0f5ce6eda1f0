pub mod Septets
