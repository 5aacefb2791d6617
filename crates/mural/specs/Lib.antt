pub mod Answers
pub mod Interpreter
pub mod Laws
pub mod Lines
pub mod Replies
pub mod Runs
pub mod Status
pub mod Wording
