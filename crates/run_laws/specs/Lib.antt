-- The requests that a sheet may forbid, and which of them an instruction makes.
pub mod Requests
-- The gate that a call makes, read off the draft and the registers.
pub mod MadeGates
-- What a sheet allows.
pub mod Allowed
-- The moments of a run.
pub mod Moments
-- The cause of each end, and how an actor goes on, read off the fetch, the fuel, the decoder,
-- the hart's need, the address and the reply.
pub mod Ends
-- The code with which a call is refused, by the row of the call.
pub mod Refusals
-- What each moment costs its actor in fuel, read off the text, the registers and the reply.
pub mod Paying
-- Starts, entries of gates, joins and ends, read off the registers, the drafts and the child.
pub mod Families
-- What the call that opens a file leaves, once it is allowed.
pub mod FileCalls
-- What an instruction comes to ask of a cell, and what its event asks.
pub mod Asking
-- What the calls that make and delete tags leave.
pub mod TagCalls
-- The copies with which a child begins, read off the draft, the starter's rights and own
-- copies, and the slots.
pub mod ChildCopies
-- What each moment makes of its actor's gates, read off the request, the draft, the registers
-- and the slots.
pub mod GateCalls
-- Private copies are at the slots of grants of copies, on the sheet of whoever has them.
pub mod CopiesGranted
-- What holds of gates in every run.
pub mod KnownGates
-- What holds of the runs of gates in every world of a run.
pub mod RecycledGates
-- Who runs a gate, or is under a run of it, holds older gates and those that were made at or
-- under the run, and not the gate itself.
pub mod GatesWithin
-- What an actor sees of the cells.
pub mod Isolation
-- What each moment makes of its actor's drafts, read off the call's number and its arguments.
pub mod Drafting
-- The private bytes of an actor, in its ranges and in its copies of tags.
pub mod Remembering
-- The bytes of tags and of streams by the history of a run, and who wrote them.
pub mod Written
-- Who loads from tags, and who reads streams.
pub mod Readers
-- What each cell holds by the history of a run, beside the bytes.
pub mod CellHistories
-- How a call takes place that is allowed and not refused: its events, and what its actor then is.
pub mod TakingPlace
-- An actor's entries as a walk of its own.
pub mod Walks
-- Names of the actors of a world.
pub mod Names
-- The fuel of a world.
pub mod Fuel
-- The lives that the actors of a world hold.
pub mod LiveSthreads
-- What holds of the actors of every run.
pub mod FamilyTrees
-- The root as a run begins, read off the image.
pub mod RootBegins
-- What the root's rights bound.
pub mod Bounds
-- What holds of the slots and the tags of every run.
pub mod Occupancy
-- Where the ranges of private memory lie.
pub mod MemoryRanges
-- What is asked of a cell fits it.
pub mod FittingAsks
-- What holds of every run.
pub mod Laws
-- What it is to hold a gate, to lend a draft and to be given one, said beside the machine's own
-- definitions.
pub mod Holding
-- Complete runs.
pub mod CompleteRuns
