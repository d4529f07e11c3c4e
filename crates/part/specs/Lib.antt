-- A part of a curve: the request that it is, and the record that the card answers. Worked parts are in crate worked. Assumes nothing.
pub mod Part
pub mod Contract
pub mod Choice
