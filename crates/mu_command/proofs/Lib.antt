pub mod Back
pub mod Bare
pub mod Exact
pub mod FormLemmas
pub mod FormTable
pub mod Meant
mod OneText
pub mod Plain
pub mod Reading
pub mod Words
