mod RuleLemmas
pub mod CircleLemmas
pub mod Decided
pub mod DerivationLemmas
pub mod EntryLemmas
pub mod NameLemmas
pub mod PassLemmas
pub mod PathLemmas
pub mod ToldLemmas
pub mod WalkLemmas
