-- A cache of the rights that a sheet gives on tags, and what the look-up of a tag makes of it.
pub mod Caches
-- What look-ups of tags, one after another, make of a cache: which tags it has, and how many look-ups are hits.
pub mod Hits
-- The entry that is kept beside a cache.
pub mod LatestEntries
