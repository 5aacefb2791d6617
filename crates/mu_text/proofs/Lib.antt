mod Fronts
mod Longest
mod Skips
pub mod Blocks
pub mod Chains
pub mod Choice
pub mod Claims
pub mod Complete
pub mod Declarations
pub mod Exact
pub mod Excesses
pub mod Facts
pub mod Groups
pub mod Heads
pub mod Kept
pub mod Limits
pub mod Lines
pub mod Lists
pub mod Marks
pub mod Only
pub mod Reasons
pub mod References
pub mod Rows
pub mod Simple
pub mod Steps
pub mod Trees
pub mod Turns
pub mod Viable
pub mod Whole
