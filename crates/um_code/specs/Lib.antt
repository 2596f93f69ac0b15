-- What is trusted: how code is printed.
pub mod Listing
