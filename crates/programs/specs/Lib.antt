pub mod Arguments
pub mod Printed
pub mod Serving
