pub mod Changes
pub mod Distinct
pub mod Repeats
pub mod Storable
