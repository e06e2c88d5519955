pub mod Answering
pub mod Begin
pub mod Draining
pub mod Outcomes
pub mod Rolling
