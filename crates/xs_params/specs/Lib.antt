pub mod ListTokens
pub mod DefaultTexts
pub mod ParamSteps
pub mod ParamLists
pub mod ParamGrammar
pub mod ListFronts
pub mod Laws
