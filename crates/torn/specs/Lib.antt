-- Salvaging a torn trace: of the whole, of a window, and the lines that tell of it. Assumes nothing.
pub mod Salvage
pub mod Lines
pub mod Window
pub mod Examples
