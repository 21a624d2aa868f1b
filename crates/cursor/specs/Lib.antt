-- The statement of the step that moves a lent cursor.
pub mod InPlace
