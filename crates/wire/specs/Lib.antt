-- What goes over the wire: numbers of two bytes, and how a record starts. Assumes nothing.
pub mod Words
pub mod Start
