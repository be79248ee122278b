pub mod Variables
pub mod TemplatePieces
pub mod TemplateSteps
pub mod TemplateText
pub mod TemplateLaws
