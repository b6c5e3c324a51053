-- A world in which one actor has gone on and come to rest: that actor takes the same turn as before.
pub mod Rested
-- A turn with its notes, part by part.
pub mod LoggedTurns
-- The notes of a turn do not depend on those before.
pub mod Behind
-- A schedule with its log, name by name.
pub mod LoggedReplays
-- The turns of the notes of a schedule, name by name.
pub mod NoteTurns
-- A turn that is taken back.
pub mod TakenBack
-- Chains of calls stay framed, call by call and instruction by instruction.
pub mod FramedChains
-- Logs stay framed, turn by turn.
pub mod FramedLogs
-- What a request tells of the image.
pub mod Suiting
-- An actor stays in its compartment.
pub mod Kept
-- What a turn makes of a log.
pub mod LogTurns
-- In every run compartments and entries of gates are procedures.
pub mod Entries
-- What a run made is known to its log.
pub mod KnownItems
-- A turn leaves what its run made known to the log.
pub mod KnownTurns
-- What is noted of an actor that comes to rest has a name.
pub mod NamedRests
-- Each note of a schedule names what is there.
pub mod NamedLogs
-- An instruction leaves an actor's private copies at the slots of grants of copies on its sheet.
pub mod CopiesKept
-- Each load and each store of a private copy is noted.
pub mod NotedCopies
-- A chain has the first 64 of the calls that have not returned.
pub mod OpenCalls
-- What a note names, by its number or by who made it.
pub mod NotedItems
-- An event has a note exactly where it succeeded.
pub mod NotedEvents
-- In every run a turn adds its own notes to the log.
pub mod WithinNotes
-- In every run what a log knows was made in that run.
pub mod Makers
-- The turns of notes are those in which the schedule's notes were made.
pub mod TurnLaws
