-- How near a reading is to the curve and to the surface, and worked readings. Assumes nothing.
mod Near
pub mod Moments
pub mod Worked
