pub mod Arrays
pub mod Ranges
pub mod Sums
pub mod Tables
pub mod Tests
