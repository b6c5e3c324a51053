-- What a binary search finds in a map, and what its entries are after a value is put there.
pub mod Search
-- What two maps joined have at a key.
pub mod Joined
-- The keys of the maps of sheets rise.
pub mod Keys
-- The first part of a path is what is before its first slash, behind those that it begins with.
pub mod FirstPart
-- The first excess of a draft is what a first excess means, and there is none exactly where the
-- draft is within what its creator holds.
pub mod FirstExcess
-- The sheet of a draft without excess is within what its creator holds.
pub mod SheetWithin
-- The first excess of a draft is the first part of it that is missing, by look-ups in maps.
pub mod Missing
-- A draft with one grant more asks for exactly that at its place, and for all else as before;
-- so with what an actor made.
pub mod Editing
-- The root of a run begins with the rights, the bits, the user and the root directory that are
-- declared.
pub mod RootSheets
