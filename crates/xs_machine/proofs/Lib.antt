pub mod Follows
pub mod Ends
pub mod Tops
pub mod BareCode
pub mod Operands
