-- What a salvage from an input promises. Assumes nothing.
pub mod Salvaging
pub mod saver
