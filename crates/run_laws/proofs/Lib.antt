-- A write into the first range in which its bytes lie.
pub mod WritingRanges
-- Bytes written into a private copy are read there, and each other byte of each copy stays.
pub mod WritingCopies
-- A directory whose places are below a limit gives out such places alone, whatever it is asked.
pub mod Directing
-- What a turn is made of, and what its event leaves of the actor.
pub mod Between
-- Actors by name.
pub mod Named
-- Buffers that are read, and the paths in them, in the two words for each.
pub mod Buffers
-- The calls on streams.
pub mod StreamCalls
-- Gates that are being made.
pub mod MakingGates
-- Whoever enters a gate holds it, and lends what it has.
pub mod EnteringGates
-- What an instruction comes to.
pub mod Meeting
-- What an actor at rest comes to.
pub mod Happening
-- A turn.
pub mod Turns
-- Worlds that differ in local events alone.
pub mod Settling
-- The sheet of a draft has what the draft asks for, grant by grant.
pub mod Drafted
-- Starts, joins and ends among actors are as the registers, the drafts and the child say.
pub mod Families
-- Who waits for the run of a gate.
pub mod Waits
-- In each run the entries of an actor are a walk of its own.
pub mod Walking
-- How an actor goes on.
pub mod Going
-- What each moment costs is paid.
pub mod Paying
-- The drafts of an actor after each moment are as its call made them.
pub mod DraftEdits
-- A call on drafts that is not refused is answered in its instruction, and changes nothing but its
-- actor.
pub mod DraftAnswers
-- The bytes of a tag are copied for a child that is prepared, or for the runs of a gate that is
-- made, and by no other event.
pub mod Snapping
-- In every run each draft of an actor has at most 1,024 grants, so a child has at most as many
-- copies.
pub mod DraftsFit
-- A child is prepared by the claim of a life and by the copies of tags.
pub mod Preparing
-- What is prepared for a child, or for the runs of a gate, has copies at the slots of grants of
-- copies alone.
pub mod GrantedPreparing
-- In every run the copies with which the runs of a gate begin are at the slots of the grants of
-- copies on the gate's sheet.
pub mod GrantedGates
-- What the run of a gate has from its caller.
pub mod GateRuns
-- The run of a gate has the gate's copies, which are at the slots of the grants of copies on
-- the gate's sheet, and so of those on its own.
pub mod GrantedRuns
-- In every run the private copies of an actor, and of a child that it prepares, are at the
-- slots of the grants of copies on their sheets.
pub mod GrantedCopies
-- A read writes the bytes that it was given into the buffer of its call.
pub mod Reading
-- Private memory over an instruction and over an event.
pub mod Keeping
-- The draft of a request to make a gate is the one that its call names.
pub mod MakesDrafted
-- What each moment makes of its actor's gates.
pub mod GateMoments
-- How a request is checked.
pub mod Checking
-- The moments of calls on tags.
pub mod TagMoments
-- The moments of the calls on streams.
pub mod StreamMoments
-- The moments of the call that opens a file.
pub mod FileMoments
-- An instruction comes to the event that its word says, and its event asks what its actor came for.
pub mod Asking
-- Each moment of a run.
pub mod Mediating
-- One cell among others.
pub mod OneCell
-- Whatever a cell holds beside its bytes is changed by its own events alone.
pub mod CellChanging
-- Bytes of tags and of streams by the history of a run, and who wrote them.
pub mod Writing
-- Who loads from tags, and who reads streams.
pub mod Readers
-- The count of live sthreads is that of the lives which actors hold.
pub mod LiveSthreads
-- The cells of a run begin as the rules of the cells have it.
pub mod Opening
-- The root begins as the image declares it.
pub mod RootBegins
-- Names as a tree.
pub mod Trees
-- Where no two actors have one name, an actor put in its place has its own still.
pub mod Distinct
-- What holds of the actors of every run.
pub mod FamilyKept
-- Sums of fuel over actors.
pub mod FuelSums
-- The actors of every run.
pub mod FamilyRuns
-- No actor of a run has more rights on what the image declares than the root.
pub mod Bounding
-- In which slots an actor has tags.
pub mod SlotsKnown
-- The slot in which an actor has a tag that it made, or may store to.
pub mod TagSlots
-- The slots and the tags of every run are as they should be.
pub mod Occupying
-- Every turn of a run leaves the slots and the tags as they should be, and so does every run.
pub mod OccupiedRuns
-- Each turn takes work away, so every run ends.
pub mod WorkLeft
-- An instruction, and an event that is no end, keep where the ranges of private memory lie.
pub mod KeepingRanges
-- The memory with which the runs of a gate begin has the ranges of the image.
pub mod GateRanges
-- What is asked of a cell fits it.
pub mod FittingAsks
-- A claim of a slot takes a unit of fuel at least, so an image's fuel bounds the numbers of tags.
pub mod NumbersGiven
-- In every run whoever holds a gate knows it, the sheet of a gate names only gates made before
-- it, and a gate is what its maker made.
pub mod KnownGates
-- In every run a recycled gate is entered exactly while one run of it lives, and what it keeps
-- has the copies alone that its sheet grants.
pub mod RecycledRuns
-- In every run every private memory has the ranges of the image.
pub mod ImagesRanges
-- In every run no actor at or under a run of a gate holds that gate.
pub mod GatesWithin
-- No gate of a run gives more on what the image declares than the root has.
pub mod BoundedGates
-- Where the cells look alike to an actor in two worlds, its loads, stores, reads and appends go
-- the same way in both.
pub mod Isolation
-- Who has ended has joined everyone that it began; so once the root has ended, every actor has.
pub mod AllEnd
-- In every run the drafts of each actor have their items in order, and at most 1,024 grants
-- each.
pub mod SortedDrafts
-- A call that is allowed and not refused takes place.
pub mod TakingPlace
-- Whoever opens a file does so by a call that is allowed.
pub mod AllowedOpening
-- Events of the directories, of slots and of streams are in bounds.
pub mod Placing
