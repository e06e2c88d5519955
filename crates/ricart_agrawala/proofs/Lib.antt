pub mod Answering
pub mod Clocks
pub mod Delivery
pub mod Made
pub mod Replying
pub mod Rows
pub mod States
