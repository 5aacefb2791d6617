pub mod RepeatLemmas
pub mod TestLemmas
pub mod Valid
