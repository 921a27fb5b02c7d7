pub mod Counted
pub mod JoinedLines
pub mod MachineViews
pub mod Refusals
pub mod Views
