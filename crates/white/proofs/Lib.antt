-- Laws of the table, of decoding, and of the forms at the front and at the end; the examples.
pub mod Table
pub mod Utf8
pub mod Forms
pub mod Scan
pub mod Examples
