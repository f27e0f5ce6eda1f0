pub mod DigitCharacters
pub mod Checks
pub mod SemiOctets
pub mod DigitTexts
pub mod Shapes
pub mod RecordWritten
pub mod Laws
