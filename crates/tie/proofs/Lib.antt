pub mod Answering
pub mod Beginning
pub mod Holders
pub mod Islands
pub mod Steps
pub mod Stored
