pub mod Contents
pub mod Push
pub mod Tellers
