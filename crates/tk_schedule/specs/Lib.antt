pub mod Schedule
pub mod Raw
pub mod Due
pub mod Told
pub mod Laws
