pub mod Cells
pub mod Sizes
pub mod Sums
pub mod Tables
pub mod Tests
