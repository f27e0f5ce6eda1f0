pub mod Numbers
pub mod Blocks
pub mod Answers
pub mod Internal
