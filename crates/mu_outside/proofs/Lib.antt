pub mod CallLemmas
pub mod ImageLemmas
pub mod LeavesLemmas
pub mod RangeLemmas
pub mod SceneLemmas
pub mod TakingLemmas
