pub mod Places
pub mod Reading
pub mod Waiting
pub mod Writes
