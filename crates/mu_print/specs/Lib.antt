pub mod Canonical
pub mod Laws
pub mod Operands
pub mod Sound
pub mod Texts
