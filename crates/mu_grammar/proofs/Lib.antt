pub mod Agreement
pub mod Bare
pub mod Digits
pub mod Measures
pub mod Numbers
pub mod Runs
pub mod Together
pub mod Within
