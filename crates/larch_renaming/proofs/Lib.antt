-- Lemmas.
pub mod Renamed
pub mod RenamedStatements
pub mod RenamedSubstitutions
