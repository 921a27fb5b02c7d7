pub mod Lexing
pub mod Order
pub mod Piece
pub mod Refusal
pub mod TokenList
pub mod TokenTable
