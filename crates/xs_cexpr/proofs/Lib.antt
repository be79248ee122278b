pub mod ViewsCompute
pub mod PlaceViews
pub mod BindingLevels
pub mod ExpressionTurns
