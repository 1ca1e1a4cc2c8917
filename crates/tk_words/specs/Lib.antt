pub mod Pieces
pub mod Words
pub mod Book
pub mod CellLaws
pub mod Lifting
pub mod Opening
pub mod OpeningLaws
