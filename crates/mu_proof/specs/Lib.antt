pub mod Citations
pub mod Edits
pub mod Items
pub mod Names
pub mod Proofs
