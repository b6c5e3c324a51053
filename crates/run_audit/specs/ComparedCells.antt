-- The cells that an audit compares: all but the slots of declared tags, which are the first ones, and of which only
-- proofs know the histories.
use Rattle.std.specs.Prelude.{◌≡◌, ℕ, nat_lt, Bool, false, not, List, length}
use Rattle.std.specs.List.{filter}
use Rattle.wedge_events.specs.declared.events.CellName.{CellName}
use Rattle.thread_laws.specs.Joining.{all_logged, AgreeOn}
use Rattle.thread_laws.specs.Replaying.{all_histories}
use Rattle.thread_laws.specs.declared.gathered.ActorLog.{ActorLog}
use Rattle.thread_laws.specs.declared.gathered.CellHistory.{CellHistory}
use Rattle.thread_laws.specs.declared.gathered.CellHistory.TheVariants as history
use Rattle.thread_laws.specs.declared.gathered.Gathered.{Gathered}
use Rattle.thread_laws.specs.KeptEntries.{all_kept, entries_elsewhere}
use Rattle.tag_laws.specs.DeclaredTags.{IsDeclared}
use Rattle.run_audit.specs.declared.fault.AuditFault.{AuditFault}
use Rattle.run_audit.specs.declared.fault.AuditFault.TheVariants as fault

-- whether a history is that of one of the first n slots
abbrev pub is_of_declared : ℕ → CellHistory → Bool
is_of_declared n (history.Slot slot es) = nat_lt slot n
is_of_declared n h = false

-- the histories of the other cells, in their order
abbrev pub compared_histories : ℕ → List CellHistory → List CellHistory
compared_histories n hs = filter (λ (h : CellHistory). not (is_of_declared n h)) hs

-- logs keep all their entries that are on none of the first n slots
abbrev pub KeepCompared : ℕ → List ActorLog → Type 0
KeepCompared n logs = entries_elsewhere n (all_kept logs) ≡ entries_elsewhere n (all_logged logs)

-- a cell is none of the first n slots
abbrev pub IsUndeclared : ℕ → CellName → Type 0
IsUndeclared n name = IsDeclared n name → ⊥

-- each slot of a declared tag has the history that the journal has
abbrev pub DeclaredAgree : Gathered → Type 0
DeclaredAgree g = AgreeOn (IsDeclared (length g.declared)) g.logs (all_histories g)

-- a difference is at a cell that is compared
abbrev pub IsAtCompared : Gathered → AuditFault → Type 0
IsAtCompared g fault.NoMemory = Unit {0}
IsAtCompared g (fault.Disagree d) = IsUndeclared (length g.declared) d.cell
