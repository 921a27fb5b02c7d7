pub mod Answer
pub mod Claims
pub mod Mark
pub mod Walks
