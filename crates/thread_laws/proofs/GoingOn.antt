-- In a run that ends with its root, no turn comes after the root's end.
use Rattle.std.proofs.Common.{◌≡◌, Bool, true, false, true≢false, List, [], ◌∷◌, ◌++◌, refl, sym, ap, subst, ◌∙◌}
use Rattle.std.specs.Prelude.{Some}
use Rattle.wedge_base.specs.Images.{Image}
use Rattle.wedge_events.specs.declared.events.Turn.{Turn}
use Rattle.machine.specs.Actors.{ActorState}
use Rattle.machine.specs.Local.{has_ended}
use Rattle.run_laws.specs.Moments.{EachTurn}
use Rattle.machine.specs.Worlds.{WorldState, initial_state, turn_of, Runs, is_complete}
use Rattle.run_laws.proofs.AllEnd.{all_have_ended}
use Rattle.run_laws.proofs.Settling.{turn_happens, run_ready}
use Rattle.run_laws.proofs.FamilyRuns.{lives}
use Rattle.run_laws.proofs.Turns.{ready_ended, turn_from}
use Rattle.machine.proofs.Resting.{rest-ended}

runs_behind : (old : WorldState) (done : List Turn) (mid : WorldState) (t : Turn) (new : WorldState) → Runs old done mid → turn_of mid t.actor ≡ Some (record { event = t.event; world = new }) → Runs old (done ++ t ∷ []) new
runs_behind old [] mid t new run turn = (new, subst (λ w. turn_of w t.actor ≡ Some (record { event = t.event; world = new })) run turn, refl)
runs_behind old (d ∷ done) mid t new run turn = (run.0, run.1, runs_behind run.0 done mid t new run.2 turn)

-- whoever takes a turn has not ended
doer_has_execution : (i : Image) (done : List Turn) (w : WorldState) (t : Turn) (new : WorldState) → Runs (initial_state i) done w → turn_of w t.actor ≡ Some (record { event = t.event; world = new }) → is_complete w ≡ false
doer_has_execution i done w t new run turn = by_end (is_complete w) refl
  where
    by_end : (b : Bool) → is_complete w ≡ b → is_complete w ≡ false
    by_end false e = e
    by_end true e =
        let p = turn_from w t.actor t.event new turn in
        let over : has_ended p.actor.phase ≡ true = all_have_ended i done w run e t.actor p.actor p.named in
        let happens = turn_happens w t.actor t.event new (run_ready i done w run) p in
        let live = lives _ _ _ happens in
        let still : has_ended p.parts.actor.phase ≡ true = ap (λ (x : ActorState). has_ended x.phase) p.is ∙ (ready_ended w.actors p.actor ∙ over) in
        absurd (true≢false (sym still ∙ (sym (rest-ended w.image p.parts.actor) ∙ live)))

goes_from : (i : Image) (done : List Turn) (w : WorldState) (turns : List Turn) (last : WorldState) → Runs (initial_state i) done w → Runs w turns last → EachTurn (λ old t new. is_complete old ≡ false) w turns
goes_from i done w [] last run rest_ = tt
goes_from i done w (t ∷ ts) last run rest_ =
    (rest_.0, rest_.1, doer_has_execution i done w t rest_.0 run rest_.1, goes_from i (done ++ t ∷ []) rest_.0 ts last (runs_behind (initial_state i) done w t rest_.0 run rest_.1) rest_.2)

pub runs_go_on : (i : Image) (turns : List Turn) (last : WorldState) → Runs (initial_state i) turns last → EachTurn (λ old t new. is_complete old ≡ false) (initial_state i) turns
runs_go_on i turns last run = goes_from i [] (initial_state i) turns last refl run
