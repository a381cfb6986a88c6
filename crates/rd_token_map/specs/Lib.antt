pub mod SwapForm
pub mod WordsIn
pub mod BookCalls
