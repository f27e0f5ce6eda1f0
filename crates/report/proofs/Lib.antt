pub mod FieldByField
pub mod CheckByCheck
pub mod Made
pub mod OneOutcome
pub mod Limits
pub mod Blank
