pub mod Dispatch
pub mod MachineState
pub mod Cmean
pub mod Machine
pub mod Laws
pub mod MachineViews
