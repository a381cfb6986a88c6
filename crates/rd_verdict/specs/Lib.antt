pub mod LiesIn
