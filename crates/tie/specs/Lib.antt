pub mod Places
pub mod Reading
pub mod Stepping
pub mod Things
