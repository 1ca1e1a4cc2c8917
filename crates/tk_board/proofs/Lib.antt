pub mod Offers
pub mod Moves
pub mod Doors
pub mod Fitting
pub mod Knowing
