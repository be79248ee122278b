pub mod Limits
pub mod World
pub mod Effects
pub mod Heaps
pub mod Rows
pub mod ArgumentList
pub mod PerlViews
