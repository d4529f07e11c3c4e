-- How large a request's counts are, and what the door's table leaves. Assumes nothing.
pub mod Sizes
pub mod Order
