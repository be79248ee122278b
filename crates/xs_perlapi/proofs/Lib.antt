pub mod TheTable
pub mod CroakTexts
