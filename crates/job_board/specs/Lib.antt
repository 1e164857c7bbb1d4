pub mod AnswerText
pub mod Answers
pub mod BatchLines
pub mod BatchText
pub mod Boards
pub mod Inner
