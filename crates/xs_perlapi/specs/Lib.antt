pub mod Table
pub mod Formats
pub mod Laws
