pub mod Journals
pub mod LastAnswers
