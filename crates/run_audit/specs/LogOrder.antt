-- The order of logs by the names of their actors.
use Rattle.std.specs.Prelude.{◌≡◌, ℕ, ◌<◌, ◌≤◌, Bool, true, false, List, length, slice_index_or}
use Rattle.std.specs.Prelude.{Option, Some, None}
use Rattle.std.specs.Cmp.{IsStrictWeakOrder}
use Rattle.std.specs.Cmp.Lexicographic.{slice_cmp, nat_list_cmp_total}
use Rattle.std.specs.Ordering.{nat_cmp, is_lt}
use Rattle.std.proofs.lemmas.List.Sorted.{ranks_by}
use Rattle.wedge_events.specs.declared.cells.GateAsk.{GateAsk}
use Rattle.wedge_events.specs.declared.cells.GateAsk.TheVariants as gate_ask
use Rattle.thread_laws.specs.declared.gathered.ActorLog.{ActorLog}

-- whether the name of a log comes before that of another
abbrev pub log_before : ActorLog → ActorLog → Bool
log_before g h = is_lt (slice_cmp nat_cmp g.name h.name)

pub logs_sortable : IsStrictWeakOrder log_before
logs_sortable = ranks_by nat_list_cmp_total (λ (g : ActorLog). g.name)

-- so many logs have names before this one, and no later one has
pub record IsCountBefore (logs : List ActorLog) (name : List ℕ) (count : ℕ) : Type 0 where
  pub within : count ≤ length logs
  pub before : (k : ℕ) (d : ActorLog) → k < count
      → is_lt (slice_cmp nat_cmp (slice_index_or logs k d).name name) ≡ true
  pub next : (d : ActorLog) → count < length logs
      → is_lt (slice_cmp nat_cmp (slice_index_or logs count d).name name) ≡ false

-- the run that an ask of a gate begins
abbrev pub name_asked : GateAsk → Option (List ℕ)
name_asked (gate_ask.Enter run memory) = Some run
name_asked (gate_ask.Leave how memory) = None
