-- The rooms of a line, as definitions that compute on lists of bytes, and what their reader promises. Assumes nothing.
pub mod Shown
pub mod Read
