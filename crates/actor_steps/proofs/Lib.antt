-- An actor at rest, and what it is at.
mod AtRest
