pub mod Alphabet
pub mod Reading
pub mod Characters
pub mod Writing
pub mod Internal
pub mod Packing
