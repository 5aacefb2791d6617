pub mod Commands
pub mod PageLemmas
pub mod PartEdits
pub mod SoundChanges
pub mod Steps
pub mod Storable
