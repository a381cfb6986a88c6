pub mod ToyGrammar
pub mod ToyScanned
pub mod ToyLawful
