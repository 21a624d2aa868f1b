-- What a step of the walk tells, for the proof of `print_trailers`.
pub mod Step
