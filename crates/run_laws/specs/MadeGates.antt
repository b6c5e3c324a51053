-- The gate that a call makes, read off the draft and the registers: a second statement, beside the
-- step.
use Rattle.std.specs.Prelude.{◌≡◌, ℕ, ◌+◌, ◌==◌, if◌then◌else◌}
use Rattle.wedge_base.specs.Sheets.{Draft, sheet_of_draft}
use Rattle.wedge_base.specs.declared.grants.GateKind.{GateKind}
use Rattle.wedge_base.specs.declared.grants.GateKind.TheVariants as gate_kind
use Rattle.callgate.specs.declared.gate.Gate.{Gate}
use Rattle.grant_sheet.specs.Granting.{IsWithin}
use Rattle.rv_hart.specs.Local.{reg}
use Rattle.machine.specs.Actors.{ActorState}
use Rattle.run_laws.specs.Holding.{IsDrafted}

abbrev pub kind_of_number : ℕ → GateKind
kind_of_number n = if n == 0 then gate_kind.Fresh else gate_kind.Recycled

-- A gate as an actor makes it of a draft: its number is one above those of the gates that the actor
-- made before. Its sheet is what the draft gives, within what its maker holds, with its maker's
-- user and root directory; and its entry, its trusted argument, its fuel and its kind are as the
-- call says.
pub record IsGateOf (a : ActorState) (d : Draft) (g : Gate) : Type 0 where
  pub id : g.id ≡ record { maker = a.name; number = a.made.count + 1 }
  pub entry : g.entry ≡ reg a.hart.regs 11
  pub sheet : g.sheet ≡ sheet_of_draft a.sheet a.made d
  pub asked : IsDrafted a.sheet a.made d g.sheet
  pub within : IsWithin a.sheet a.made g.sheet
  pub user : g.sheet.user ≡ a.sheet.user
  pub root : g.sheet.root ≡ a.sheet.root
  pub argument : g.argument ≡ reg a.hart.regs 12
  pub fuel : g.fuel ≡ reg a.hart.regs 13
  pub kind : g.kind ≡ kind_of_number (reg a.hart.regs 14)
