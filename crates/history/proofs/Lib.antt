pub mod Along
pub mod Every
pub mod Orders
