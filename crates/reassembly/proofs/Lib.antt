pub mod Joining
pub mod Arrival
pub mod Accepting
pub mod Taking
pub mod Blank
