-- What a run on threads leaves.
use Rattle.std.specs.Prelude.{◌≡◌, ◌∷◌, List, length}
use Rattle.wedge_base.specs.Images.{Image}
use Rattle.tag_laws.specs.DeclaredTags.{AreRuled}
use Rattle.machine.specs.Actors.{root}
use Rattle.thread_laws.specs.ActorProgresses.{AreReturned}
use Rattle.thread_laws.specs.Joining.{AreWalked, all_logged}
use Rattle.thread_laws.specs.KeptEntries.{AreKept}
use Rattle.thread_laws.specs.Replaying.{all_histories, AreLegalHistories}
use Rattle.thread_laws.specs.declared.gathered.ActorEnd.{ActorEnd}
use Rattle.thread_laws.specs.declared.gathered.ActorLog.{ActorLog}
use Rattle.thread_laws.specs.declared.gathered.Gathered.{Gathered}

-- the logs are what the thread of the root returned: each stamp is that of a clock as the rules have it
pub record IsOfRoot (i : Image) (logs : List ActorLog) : Type 0 where
  pub log : ActorLog
  pub others : List ActorLog
  pub end_ : ActorEnd
  pub logs_ : logs ≡ log ∷ others
  pub returned : AreReturned i (root i) 0 log others end_

-- the logs are those of whole executions, one for each actor that the root created or that these
-- created, and no other; the histories are those that cells kept; and those of the slots of declared tags, which
-- only proofs know, have just the logged entries; and the logs keep what an audit compares
pub record IsGathered (i : Image) (g : Gathered) : Type 0 where
  pub walked : AreWalked i g.logs
  pub of_root : IsOfRoot i g.logs
  pub declared_ : length g.declared ≡ length i.tags
  pub kept : AreLegalHistories i (all_histories g)
  pub ruled : AreRuled (length i.tags) (all_logged g.logs) (all_histories g)
  pub logs_kept : AreKept g
