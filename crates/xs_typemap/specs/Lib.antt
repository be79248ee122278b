pub mod TidiedTypes
pub mod TypemapLines
pub mod TypemapEntries
pub mod TypemapSteps
pub mod TypemapText
pub mod CoreTypes
pub mod TypemapLaws
