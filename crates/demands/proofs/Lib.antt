-- What rests on the pages of specs/: the worked rides as a whole, and the mirror. Assumes nothing.
pub mod Demands
pub mod Rides
