pub mod Texts
pub mod Seal
pub mod Laws
