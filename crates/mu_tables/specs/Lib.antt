pub mod Operators
pub mod Tables
pub mod Words
pub mod Work
