pub mod Ask
pub mod Facts
pub mod Free
pub mod Lawful
pub mod Park
pub mod Reply
pub mod Request
pub mod Step
