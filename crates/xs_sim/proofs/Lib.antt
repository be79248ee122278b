pub mod ListPositions
pub mod IntNumbers
pub mod StatementMeanings
pub mod Temporaries
pub mod CallEnds
