pub mod TokenInput
pub mod Operators
pub mod TypeReader
pub mod OperatorLevels
