-- What the reading of a day promises. Assumes nothing.
pub mod Telling
pub mod daily
pub mod sheet_lines
pub mod sheets
