-- The services: their refusals, their answers, what plans and move lists that they accept are, and round sheets.
pub mod Refusals
pub mod Places
pub mod Answers
pub mod Judged
pub mod Replayed
pub mod Sheets
