pub mod Lending
pub mod Maps
pub mod Names
pub mod Trees
pub mod formers
