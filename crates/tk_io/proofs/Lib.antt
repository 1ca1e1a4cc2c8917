pub mod Pieces
pub mod Contents
pub mod Tapped
pub mod Tapping
pub mod Fronts
pub mod Results
pub mod Offers
