pub mod VariableNames
pub mod CutSteps
pub mod Expanding
pub mod EachText
pub mod FollowsText
pub mod Assignments
