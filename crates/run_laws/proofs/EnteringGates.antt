-- Whoever enters a gate holds it, and lends what it has.

use Rattle.std.proofs.Common.{◌≡◌, ◌≤◌, length, refl, []}
use Rattle.std.specs.Prelude.{true, nat_lt, Option, Some, None}
use Rattle.wedge_base.specs.Sheets.{Draft, lent_to, Sheet}
use Rattle.machine.specs.declared.phase.Phase.{Phase}
use Rattle.machine.specs.Actors.{ActorState, gate_held}
use Rattle.machine.specs.Calls.{a0, a2, lent_asked}
use Rattle.machine.specs.Entrance.{Entrance}
use Rattle.machine.specs.Entering.{sheet_lent, excess_lent, may_lend}
use Rattle.callgate.specs.Lending.{IsRunSheet}
use Rattle.grant_sheet.proofs.Joined.{at_joined}

-- an actor that is about to enter a gate: it holds the gate at the entry, and lends nothing or a draft that may be lent, every grant of
-- which it may give; its name has room, and it has the gate's fuel
pub record IsEnterable (a : ActorState) (x : Entrance) : Type 0 where
  pub held : gate_held a (a0 a) ≡ Some x.gate
  pub lent : Option Draft
  pub asked : lent_asked a.drafts (a2 a) ≡ Some lent
  pub lendable : may_lend lent ≡ true
  pub allowed : excess_lent a lent ≡ None
  pub sheet : x.sheet ≡ lent_to x.gate.sheet (sheet_lent a lent)
  pub shallow : nat_lt (length a.name) 32 ≡ true
  pub enough : x.gate.fuel ≤ a.fuel

-- so it is at whatever phase
pub enterable_at : (a : ActorState) (p : Phase) (x : Entrance) → IsEnterable a x → IsEnterable (record a { phase = p }) x
enterable_at a p x h = record { held = held_at h.lent h.held; lent = h.lent; asked = h.asked; lendable = h.lendable; allowed = allowed_at h.lent h.allowed; sheet = sheet_at h.lent h.sheet; shallow = h.shallow; enough = h.enough }
  where
    held_at : (lent : Option Draft) → gate_held a (a0 a) ≡ Some x.gate → gate_held (record a { phase = p }) (a0 a) ≡ Some x.gate
    held_at lent e = e

    allowed_at : (lent : Option Draft) → excess_lent a lent ≡ None → excess_lent (record a { phase = p }) lent ≡ None
    allowed_at None e = e
    allowed_at (Some d) e = e

    sheet_at : (lent : Option Draft) → x.sheet ≡ lent_to x.gate.sheet (sheet_lent a lent) → x.sheet ≡ lent_to x.gate.sheet (sheet_lent (record a { phase = p }) lent)
    sheet_at None e = e
    sheet_at (Some d) e = e

-- the sheet of a run, grant by grant
pub run_is : (g : Sheet) (lent : Option Sheet) → IsRunSheet g lent (lent_to g lent)
run_is g None = record { tags = at_joined g.tags []; fds = at_joined g.fds []; gates = refl; user = refl; root = refl }
run_is g (Some s) = record { tags = at_joined g.tags s.tags; fds = at_joined g.fds s.fds; gates = refl; user = refl; root = refl }
