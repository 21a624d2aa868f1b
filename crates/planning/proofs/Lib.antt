-- Laws of counting, of where a listing begins, of a turn, and of a table that is filled.
pub mod Counted
pub mod Judged
pub mod Stepping
pub mod Filled
