pub mod BuiltCalls
pub mod MachineTranscript
pub mod Reports
pub mod GlueCode
pub mod Headline
pub mod Jobs
pub mod Laws
