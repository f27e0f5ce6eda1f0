pub mod CheckByCheck
pub mod FieldByField
pub mod RecordWritten
pub mod RecordRead
pub mod Demand
pub mod Blank
