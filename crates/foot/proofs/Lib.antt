-- What is told from the end is the same whatever stands above (Moved, Told); when the last bytes are enough (Settles); they tell the full
-- walk (Tells), and bytes that are refused tell nothing (Needed); numbers fall (Numbers); the finder (Finding); Examples.
pub mod Moved
pub mod Told
pub mod Settles
pub mod Tells
pub mod Numbers
pub mod Needed
pub mod Finding
pub mod Examples
