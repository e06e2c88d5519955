pub mod Contents
pub mod Tellers
