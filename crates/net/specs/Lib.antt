-- 01's nets (from rule Order of the numbers on): their order, the blossom, scaled, the composed net and its reading at a moment,
-- as definitions that compute. Assumes nothing.
pub mod Net
pub mod Blossom
pub mod Composed
pub mod Reading
pub mod Mirror
pub mod Weighing
pub mod Sizes
pub mod Examples
pub mod runs
