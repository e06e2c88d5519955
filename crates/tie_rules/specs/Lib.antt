pub mod Invariant
pub mod Reading
pub mod Rules
pub mod Sides
pub mod State
