pub mod LineForms
pub mod ModuleLine
pub mod Keywords
pub mod Classes
pub mod SectionFaults
pub mod Cut
pub mod Steps
pub mod Laws
