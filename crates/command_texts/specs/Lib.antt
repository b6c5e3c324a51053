-- What the commands that run nothing make of their files.
pub mod Answers
-- Why a command that runs nothing makes no text.
pub mod Causes
