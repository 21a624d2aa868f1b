-- Laws of the scan: of a line and its turn, of where a line begins, and of the header judged.
pub mod Cuts
pub mod Parents
pub mod Begins
pub mod Turns
