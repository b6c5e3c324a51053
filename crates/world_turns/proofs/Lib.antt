-- How a run begins and goes on.
pub mod Runs
-- What makes a turn.
pub mod Turning
-- The actors of a world of which one goes on, or comes to rest.
pub mod AtRest
-- What the actor at an index wants that other actors have part in.
pub mod FamilyTurns
-- The actor at an index goes on from the run of a gate, if it waited for one.
pub mod GoingOn
-- Entries by their places.
pub mod Numbering
-- What an actor wants fits the cells.
pub mod Fitting
-- A run goes on by a turn, or its actor has to wait.
pub mod Advancing
-- What a schedule replays to.
pub mod Replays
-- The index of actors by name.
pub mod Indexing
-- An actor of a run that lives has a turn, unless it awaits a child or a run that has not
-- ended, or is to enter a recycled gate in which a run is.
pub mod HavingTurns
