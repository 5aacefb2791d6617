pub mod Blocks
pub mod Images
pub mod Repairs
pub mod Moments
pub mod Shown
pub mod Added
