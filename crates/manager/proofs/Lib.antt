pub mod Accepted
pub mod First
pub mod KindLaws
pub mod Seeking
pub mod Statuses
