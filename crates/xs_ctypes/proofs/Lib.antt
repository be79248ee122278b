pub mod HeldNames
pub mod ScopesGrow
