-- The services: their refusals, their answers, what plans and move lists that they accept are, and round sheets.
pub mod Answers
pub mod Judged
pub mod Replayed
