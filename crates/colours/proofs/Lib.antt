-- what is shown, after more was added
pub mod Adding
