pub mod Charging
pub mod Rising
pub mod Turns
