-- A pair in words, as bytes. Assumes nothing.
pub mod Text
pub mod Asked
pub mod Replied
pub mod Forms
pub mod Page
pub mod Examples
pub mod entries
