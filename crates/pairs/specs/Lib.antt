-- A recorded trace, cut into pairs of a request and its reply. Assumes nothing.
pub mod Cut
