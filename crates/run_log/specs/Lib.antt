-- What is kept of a run beside its world.
pub mod Logs
-- The log of a run, turn by turn.
pub mod Logging
-- In which turn each note of a schedule was made.
pub mod NoteTurns
-- What the parts of a logged turn make.
pub mod LoggedParts
-- What the chain of calls of every note is.
pub mod ChainLaws
-- What jumps make of a chain of calls.
pub mod OpenCalls
-- What a note names.
pub mod NamedNotes
-- What a turn adds to the notes.
pub mod NoteLaws
-- Who made what the notes name.
pub mod MakerLaws
-- What the turns of notes are.
pub mod TurnLaws
