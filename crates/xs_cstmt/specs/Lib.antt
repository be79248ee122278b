pub mod StatementTree
pub mod PerlForms
pub mod StatementReader
pub mod StatementViews
pub mod StatementHeights
