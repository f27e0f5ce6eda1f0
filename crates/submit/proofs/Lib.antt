pub mod CheckByCheck
pub mod FieldByField
pub mod Text
pub mod RecordRead
pub mod Known
pub mod Demand
pub mod Blank
pub mod RecordWritten
