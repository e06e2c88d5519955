pub mod Decimals
pub mod Limits
pub mod Texts
pub mod Words
pub mod Written
