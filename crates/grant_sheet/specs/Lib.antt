-- Where a key is in a map, and where it would be inserted.
pub mod NumberMap
-- The first part of a path, as it is read from its bytes.
pub mod Paths
-- Drafts of which an actor may grant every part, and the first part of one that it may not
-- grant.
pub mod Excess
-- Sheets that are within what an actor holds.
pub mod Granting
-- What a draft asks for, what an actor holds, and the first that is missing, by look-ups in
-- maps.
pub mod Missing
-- What a draft asks for after a grant is added, and what an actor has made after it makes one
-- thing more, by look-ups.
pub mod Editing
-- The sheet with which the root of a run begins, by look-ups in what the image declares.
pub mod RootSheets
