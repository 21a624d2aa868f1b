-- What a call's parts answer, as document 01 says it.
pub mod Calls
pub mod Examples
pub mod Before
pub mod Walked
