pub mod TreeBuilders
pub mod RunnerStates
pub mod MadeArguments
pub mod Laws
