-- What it is to hold a gate, to lend a draft and to be given one, said beside the machine's own
-- definitions: the laws read these, and the step does not.

use Rattle.std.specs.Prelude.{◌≡◌, ℕ, ◌==◌, Bool, true, not, ◌&&◌, length, Option, Some, None, is_none, option_map, unwrap_or, option_and_then, if◌then◌else◌, is_some}
use Rattle.std.specs.List.{list_any}
use Rattle.std.specs.Option.{option_or}
use Rattle.wedge_base.specs.Maps.{at, is_among}
use Rattle.wedge_base.specs.Sheets.{Sheet, Made, Draft, first_excess, sheet_of_draft, is_copy}
use Rattle.wedge_base.specs.declared.rights.Denial.{Denial}
use Rattle.callgate.specs.Gate.{gate_named}
use Rattle.callgate.specs.declared.gate.Gate.{Gate}
use Rattle.machine.specs.Actors.{ActorState}

-- the gate at an entry, among those that the actor knows: the last that it made there, or else the
-- one of its sheet
abbrev pub gate_for : ActorState → ℕ → Option Gate
gate_for a entry = option_and_then (gate_named a.gates) (option_or (at a.made.gates entry) (at a.sheet.gates entry))

-- the sheet of what is lent, and the first part of it that its lender may not give
abbrev pub loan : ActorState → Option Draft → Option Sheet
loan a None = None
loan a (Some d) = Some (sheet_of_draft a.sheet a.made d)

abbrev pub loan_lacks : ActorState → Option Draft → Option Denial
loan_lacks a None = None
loan_lacks a (Some d) = first_excess a.sheet a.made d

-- a loan has no copy of a tag, no gate, no user and no root directory
abbrev pub is_loan : Option Draft → Bool
is_loan None = true
is_loan (Some d) =
    not (list_any (λ e. is_copy e.1) d.tags)
    && (length d.gates == 0)
    && is_none d.user
    && is_none d.root

-- what a sheet has that its giver made of a draft, grant by grant: each right and each bit that the
-- draft asks for and no other, the gate that the giver has at each entry that it asks for (it has
-- one at each of them), and the user and the root directory that it asks for, or else the giver's
pub record IsDrafted (s : Sheet) (m : Made) (d : Draft) (child : Sheet) : Type 0 where
  pub tags : (tag : ℕ) → option_map (λ g. g.right) (at child.tags tag) ≡ at d.tags tag
  pub fds : (fd : ℕ) → at child.fds fd ≡ at d.fds fd
  pub gates : (entry : ℕ) → at child.gates entry ≡ (if is_among d.gates entry then option_or (at m.gates entry) (at s.gates entry) else None)
  pub user : child.user ≡ unwrap_or d.user s.user
  pub held : (entry : ℕ) → is_among d.gates entry ≡ true → is_some (option_or (at m.gates entry) (at s.gates entry)) ≡ true
  pub root : child.root ≡ unwrap_or d.root s.root
