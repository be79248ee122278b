pub mod Stub
pub mod Intended
pub mod Laws
