-- What lies ahead in a window of a torn trace, as the library answers it. Assumes nothing.
pub mod Ahead
