pub mod KeptTokens
pub mod NamesHeld
pub mod FirstTokens
pub mod StarSteps
pub mod Tables
pub mod LevelsOfTheTable
