-- Laws of answer lines. Assumes nothing.
pub mod Listing
pub mod Examples
