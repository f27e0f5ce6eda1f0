pub mod AlphabetLines
