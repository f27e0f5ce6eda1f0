pub mod Elements
pub mod InOctets
pub mod Internal
pub mod Order
pub mod Record
