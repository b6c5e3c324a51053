-- What an actor's phase says of it.
use Rattle.std.proofs.Common.{◌≡◌, ℕ, List, ap}
use Rattle.std.specs.Prelude.{Some}
use Rattle.wedge_base.specs.declared.rights.End.{End}
use Rattle.wedge_base.specs.Sheets.{Made}
use Rattle.machine.specs.Between.{PhaseFitsWhere, IsEntering}
use Rattle.machine.specs.Children.{Children}
use Rattle.machine.specs.Local.{end_reached}
use Rattle.machine.specs.declared.phase.Phase.{Phase}
use Rattle.machine.specs.declared.phase.Phase.TheVariants as phase
use Rattle.actor_run.specs.Runs.{AffordsGate}

pub ended_so : (p : Phase) (how : End) → end_reached p ≡ Some how → p ≡ phase.Ended how
ended_so (phase.Ended e) how is = let same : e ≡ how = cc in ap phase.Ended same
ended_so phase.Running how is = absurd cc
ended_so (phase.Within q) how is = absurd cc
ended_so (phase.Starting x) how is = absurd cc
ended_so (phase.MakingGate x) how is = absurd cc
ended_so (phase.Opening slot tag) how is = absurd cc
ended_so (phase.Releasing slot) how is = absurd cc
ended_so (phase.OpeningFile o) how is = absurd cc
ended_so (phase.Entering x) how is = absurd cc
ended_so (phase.Waiting k) how is = absurd cc
ended_so (phase.Ending e) how is = absurd cc

pub affords : (P R M : Type 0) (S : List ℕ → Type 0) (J : ℕ → Type 0) (name : List ℕ) (made : Made) (fuel starts : ℕ) (unjoined : Children) (p : Phase)
    → PhaseFitsWhere P R M (IsEntering name made fuel starts unjoined) S J p → AffordsGate p fuel
affords P R M S J name made fuel starts unjoined (phase.Entering x) h = h.enough
affords P R M S J name made fuel starts unjoined p h = tt
