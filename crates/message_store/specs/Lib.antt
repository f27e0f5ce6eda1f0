pub mod Part
pub mod Store
