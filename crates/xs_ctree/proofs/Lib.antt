pub mod Extending
pub mod Opening
pub mod Additions
pub mod Callees
