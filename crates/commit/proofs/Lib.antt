-- The theorems about the definitions of specs/.
pub mod Shapes
pub mod Completing
pub mod Accepts
pub mod Derives
pub mod Refusals
pub mod Numbers
pub mod Judged
pub mod Answers
pub mod Examples
