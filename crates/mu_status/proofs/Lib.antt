pub mod BookLemmas
pub mod Standing
