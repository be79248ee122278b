pub mod Apart
pub mod Chains
pub mod NameBytes
pub mod Noted
pub mod ModulesAreSums
pub mod SmallIndexes
pub mod BuiltForms
