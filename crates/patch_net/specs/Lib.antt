-- Patches: what is asked, what is answered, the literal sum with multinomials, reading at a place, the demands, worked patches.
-- Assumes nothing.
pub mod Patch
pub mod Refusal
pub mod Composed
pub mod Afterwards
pub mod Reading
pub mod Demands
pub mod Sizes
pub mod Worked
