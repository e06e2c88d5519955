pub mod Ask
pub mod Facts
pub mod Free
pub mod Hold
pub mod Lawful
pub mod Park
pub mod Search
pub mod Step
