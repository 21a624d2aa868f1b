-- Laws of joining and of unfolding line by line.
pub mod Joined
pub mod Unfolding
pub mod Pushed
pub mod Written
pub mod Answered
