-- Lemmas.
pub mod Agreement
pub mod Occurring
pub mod Places
pub mod PlacesOf
pub mod Puts
pub mod Substitutions
