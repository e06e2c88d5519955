pub mod Delivery
pub mod Gathering
pub mod Links
pub mod Seeking
pub mod Sending
pub mod States
