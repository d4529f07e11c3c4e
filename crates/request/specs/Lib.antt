-- 01's request (rule Forms and degrees) and what is answered to it (rule Refusals), as definitions that compute. Assumes nothing.
pub mod Head
pub mod Request
pub mod Cascade
pub mod Refusal
pub mod units
pub mod refusals
