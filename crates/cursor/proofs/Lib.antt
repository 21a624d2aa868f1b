-- How an answer moves the cursor.
pub mod Moved
