-- The message above its first divider, what is shown once for every call, and the laws of the scan that finds the divider.
pub mod Cut
pub mod Readings
pub mod Scan
