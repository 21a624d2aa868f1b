-- The text that the lister prints of a message, and what `listing_into` answers and writes; Parts has what its parts speak of.
pub mod Listing
pub mod Answers
pub mod Parts
pub mod Examples
