pub mod Fronts
pub mod PlainForms
pub mod XorLaws
pub mod SealLaws
pub mod Offers
