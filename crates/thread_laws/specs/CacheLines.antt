-- The counts of the caches of all actors, read off the logs.
use Rattle.std.specs.Prelude.{ℕ, List, [], ◌∷◌, map, Option, Some, None}
use Rattle.wedge_base.specs.Images.{Image}
use Rattle.grant_cache.specs.declared.count.CacheLine.{CacheLine}
use Rattle.thread_laws.specs.Joining.{AreWalked, journal_of, log_named, logs_in_order, lines_in}
use Rattle.thread_laws.specs.LookUps.{AreCountsOf}
use Rattle.thread_laws.specs.declared.gathered.ActorLog.{ActorLog}

abbrev pub with_counts : List ℕ → Option ActorLog → List CacheLine → List CacheLine
with_counts name None cs = cs
with_counts name (Some g) cs = record { name = name; count = g.cache } ∷ cs

-- of each of these names the counts of its log
abbrev pub counts_named : List ActorLog → List (List ℕ) → List CacheLine
counts_named logs [] = []
counts_named logs (n ∷ ns) = with_counts n (log_named logs n) (counts_named logs ns)

-- the names of the actors that are listed in an outcome, in their order
abbrev pub names_listed : Image → List ActorLog → List (List ℕ)
names_listed i logs = map (λ l. l.name) (lines_in i (logs_in_order logs))

abbrev pub counts_in : Image → List ActorLog → List CacheLine
counts_in i logs = counts_named logs (names_listed i logs)

-- Where the logs are walked, there are counts for each actor of the outcome, and these are for its
-- entries in the journal.
abbrev pub CachesAreCounted : Type 0
CachesAreCounted = (i : Image) (logs : List ActorLog) → AreWalked i logs
    → AreCountsOf (journal_of logs) (lines_in i (logs_in_order logs)) (counts_in i logs)
