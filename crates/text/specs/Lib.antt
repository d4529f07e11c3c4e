-- What a request line says, as definitions that compute on lists of bytes, and what its readers promise. Assumes nothing.
pub mod Line
pub mod Read
pub mod words
pub mod kinds
pub mod numbers
pub mod rooms
pub mod pieces
pub mod tell
