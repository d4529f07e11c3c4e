-- Laws of the state of the daily sheet. Assumes nothing.
pub mod Reading
pub mod Promises
