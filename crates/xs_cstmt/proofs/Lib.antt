pub mod ViewsCompute
pub mod FormRows
pub mod FirstWord
pub mod Leaving
pub mod LoopTurns
