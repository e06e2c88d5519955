pub mod Answered
pub mod Reading
pub mod Receiving
