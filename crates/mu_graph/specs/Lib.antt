pub mod Circles
pub mod Decisions
pub mod Derivations
pub mod KeySets
pub mod Members
pub mod Names
pub mod Told
pub mod Walks
