pub mod Kinds
pub mod Laws
pub mod Literals
pub mod Numbers
pub mod Plains
pub mod Types
