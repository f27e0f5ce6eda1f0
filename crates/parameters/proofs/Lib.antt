pub mod Laws
pub mod Agreeing
pub mod Indicator
pub mod StepsOfReader
pub mod Made
pub mod Checking
pub mod Limits
