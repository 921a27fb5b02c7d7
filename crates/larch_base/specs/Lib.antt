pub mod Answering
pub mod ByNumber
pub mod CodeText
pub mod FileName
pub mod Label
pub mod Number
pub mod Position
pub mod Word
