-- The statements of the calls on a body: the original's body.rs.
pub mod Body
pub mod Examples
pub mod Before
pub mod Walked
