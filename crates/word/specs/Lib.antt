-- Eight bytes as one number.
pub mod Word
