-- What a call that answers in lent words leaves. Assumes nothing.
pub mod Left
pub mod Answered
