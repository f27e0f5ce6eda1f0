pub mod First
pub mod AtStart
pub mod Slots
pub mod Keys
pub mod Shown
