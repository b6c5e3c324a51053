pub mod Reports
pub mod Schedules
pub mod Summaries
-- The counts of the caches of actors, as text.
pub mod CacheTexts
