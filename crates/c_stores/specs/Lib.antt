pub mod Spots
pub mod Dealing
pub mod Texts
pub mod Values
pub mod Lists
pub mod Statics
pub mod Within
pub mod Laws
