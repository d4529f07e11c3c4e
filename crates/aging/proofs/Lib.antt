-- A converted trace gives the five numbers of the old one, and converting it again changes nothing. Assumes nothing.
pub mod Records
pub mod Same
pub mod Again
