-- A request record as bytes, the order in which the door judges it, and what opening it gives. Assumes nothing.
pub mod Record
pub mod Judgement
pub mod Opening
