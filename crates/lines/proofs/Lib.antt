pub mod Decimals
pub mod Writing
