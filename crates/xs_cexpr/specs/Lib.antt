pub mod ExpressionTree
pub mod ExpressionReader
pub mod ExpressionViews
pub mod ExpressionHeights
