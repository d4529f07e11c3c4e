-- Lists by their places. Assumes nothing.
pub mod Lists
