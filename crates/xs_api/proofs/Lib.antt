pub mod Cells
pub mod StackCuts
pub mod FreedTemps
