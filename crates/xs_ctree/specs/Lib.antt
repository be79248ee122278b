pub mod TypedTree
pub mod Arena
pub mod Functions
pub mod Growth
