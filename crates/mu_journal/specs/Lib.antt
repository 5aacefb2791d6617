pub mod Formats
pub mod Frames
pub mod Gates
pub mod Opening
pub mod Settled
