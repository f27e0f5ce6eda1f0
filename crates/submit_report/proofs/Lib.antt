pub mod RecordWritten
pub mod Demand
pub mod Limits
pub mod Blank
