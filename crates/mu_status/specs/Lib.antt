pub mod Books
pub mod Derivations
pub mod Sights
pub mod Statuses
pub mod Viewers
