pub mod ShiftPage
pub mod Told
