-- Numbers as text, as definitions that compute on lists of bytes. Assumes nothing.
pub mod Decimal
