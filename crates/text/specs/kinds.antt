-- A line of any kind, as definitions that compute on lists of bytes, and what is promised of it. Assumes nothing.
pub mod Kinds
pub mod Read
