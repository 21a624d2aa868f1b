-- Document 02, K6: the foot of a body, what it tells and when it is enough; where the finder finds it; the worked examples.
pub mod Foot
pub mod Found
pub mod Examples
