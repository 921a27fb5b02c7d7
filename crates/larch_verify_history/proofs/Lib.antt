pub mod Closing
pub mod LookUps
pub mod OneMore
pub mod Opening
pub mod OpenLevel
pub mod Staying
