pub mod Counting
pub mod Outcome
pub mod Reading
pub mod Rolling
pub mod Waits
