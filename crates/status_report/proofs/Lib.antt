pub mod CheckByCheck
pub mod FieldByField
pub mod RecordRead
pub mod RecordWritten
pub mod Demand
pub mod Limits
pub mod Blank
