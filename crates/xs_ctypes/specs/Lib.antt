pub mod Checked
pub mod Joining
pub mod ValueTypes
pub mod TypeNames
pub mod Scopes
pub mod FileNames
