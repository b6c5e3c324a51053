-- What an actor at rest wants, for which run it waits, or how it has ended.
use Rattle.std.specs.Prelude.{Option, Some, None, ◌≡◌, ℕ, true}
use Rattle.wedge_base.specs.declared.rights.End.{End}
use Rattle.wedge_events.specs.declared.events.Want.{Want}
use Rattle.machine.specs.Actors.{ActorState}
use Rattle.machine.specs.Between.{WantFits}
use Rattle.machine.specs.declared.next.Next.{Next}
use Rattle.machine.specs.declared.phase.Phase.{Phase}
use Rattle.machine.specs.declared.phase.Phase.TheVariants as phase
use Rattle.machine.specs.declared.next.Next.TheVariants as next
use Rattle.machine.specs.Children.{is_child}

abbrev pub want_in : Next → Option Want
want_in (next.Shared q) = Some q
want_in (next.Ended e) = None
want_in (next.Waiting run) = None

-- the end in an answer
abbrev pub end_in : Next → Option End
end_in (next.Shared q) = None
end_in (next.Ended e) = Some e
end_in (next.Waiting run) = None

-- the run of a gate for which it waits
abbrev pub run_in : Next → Option ℕ
run_in (next.Shared q) = None
run_in (next.Ended e) = None
run_in (next.Waiting run) = Some run

abbrev pub NextFits : ActorState → Next → Type 0
NextFits a (next.Shared w) = WantFits a w
NextFits a (next.Ended e) = Unit {0}
NextFits a (next.Waiting run) = is_child a.unjoined run ≡ true

-- no gate is being made
abbrev pub NotMaking : Phase → Type 0
NotMaking (phase.MakingGate p) = ⊥
NotMaking p = Unit {0}
