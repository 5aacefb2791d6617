pub mod Pages
pub mod Parts
pub mod Queries
pub mod Sound
pub mod Steps
pub mod Tallies
pub mod Units
