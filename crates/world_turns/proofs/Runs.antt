-- How a run begins and goes on.
use Rattle.std.proofs.Common.{◌≡◌, false, List, [], ◌∷◌, ◌++◌, refl, ap, subst}
use Rattle.std.specs.Prelude.{Some}
use Rattle.wedge_base.specs.Images.{Image}
use Rattle.wedge_events.specs.declared.events.Turn.{Turn}
use Rattle.machine.specs.Actors.{ActorState, root}
use Rattle.machine.specs.Cells.{Cells, opening_cells}
use Rattle.machine.specs.Worlds.{WorldState, initial_state, turn_of, Runs, all_at_rest}
use Rattle.world_turns.specs.Progress.{IsRunSoFar, state_of}

pub opened_is_run : (i : Image) (cells : Cells) (actors : List ActorState) (turns : List Turn) → cells ≡ opening_cells i → actors ≡ root i ∷ [] → turns ≡ []
    → IsRunSoFar (record { state = state_of i cells actors; turns = turns; stopped = false })
opened_is_run i cells actors turns c a t =
    let state : state_of i cells actors ≡ initial_state i = cc in
    rw t (record { last = initial_state i; run = refl; current = λ e. ap all_at_rest state })

-- a run goes on by a turn from where it leads
pub Runs-push : (old mid new : WorldState) (turns : List Turn) (t : Turn) → Runs old turns mid → turn_of mid t.actor ≡ Some (record { event = t.event; world = new }) → Runs old (turns ++ t ∷ []) new
Runs-push old mid new [] t run e = (new, subst (λ w. turn_of w t.actor ≡ Some (record { event = t.event; world = new })) run e, refl)
Runs-push old mid new (u ∷ us) t run e = (run.0, run.1, Runs-push run.0 mid new us t run.2 e)
