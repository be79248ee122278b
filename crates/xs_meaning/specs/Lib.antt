pub mod Transcript
pub mod DeclaredMeaning
pub mod Laws
