-- An actor with its notes comes to rest step by step.
use Rattle.std.proofs.Common.{◌≡◌, ℕ, zero, suc, ◌+◌, ◌<◌, Bool, true, false, refl, sym, ap, ◌∙◌, arith, inl, inr}
use Rattle.wedge_base.specs.Images.{Image}
use Rattle.machine.specs.declared.phase.Phase.{Phase}
use Rattle.machine.specs.declared.phase.Phase.TheVariants as phase
use Rattle.machine.specs.Actors.{ActorState}
use Rattle.machine.specs.Local.{step, is_running}
use Rattle.machine.proofs.Resting.{IsEnding, steps_step}
use Rattle.run_notes.specs.declared.items.Makings.{Makings}
use Rattle.run_notes.specs.Notes.{Noted, noted_step, noted_local, noted_rest}

ending_stops : (p : Phase) → IsEnding p → is_running p ≡ false
ending_stops phase.Running h = absurd h
ending_stops (phase.Within q) h = refl
ending_stops (phase.Starting pre) h = refl
ending_stops (phase.MakingGate pre) h = refl
ending_stops (phase.Opening slot tag) h = refl
ending_stops (phase.Releasing slot) h = refl
ending_stops (phase.Entering entrance) h = refl
ending_stops (phase.Waiting number) h = refl
ending_stops (phase.OpeningFile o) h = refl
ending_stops (phase.Ending x) h = refl
ending_stops (phase.Ended x) h = refl

-- an actor that does not run has no more notes
pub noted_stays : (i : Image) (m : Makings) (n : ℕ) (a : ActorState) (l : Noted) → is_running a.phase ≡ false → noted_local i m n a l ≡ l
unfolding noted_local
noted_stays i m zero a l e = refl
noted_stays i m (suc n) a l e = ap (λ b. elim b [ true ↦ noted_local i m n (step i a) (noted_step i m a l) | false ↦ l ]) e

pub noted_goes_on : (i : Image) (m : Makings) (n : ℕ) (a : ActorState) (l : Noted) → is_running a.phase ≡ true → noted_local i m (suc n) a l ≡ noted_local i m n (step i a) (noted_step i m a l)
unfolding noted_local
noted_goes_on i m n a l e = ap (λ b. elim b [ true ↦ noted_local i m n (step i a) (noted_step i m a l) | false ↦ l ]) e

-- a step more or less, of those that are left, notes nothing more or less
enough : (i : Image) (m : Makings) (n k : ℕ) (a : ActorState) (l : Noted) (b : Bool) → is_running a.phase ≡ b → a.fuel < n → a.fuel < k → noted_local i m n a l ≡ noted_local i m k a l
enough i m n k a l false e ln lk = noted_stays i m n a l e ∙ sym (noted_stays i m k a l e)
enough i m zero k a l true e ln lk = absurd (omega arith)
enough i m (suc n) zero a l true e ln lk = absurd (omega arith)
enough i m (suc n) (suc k) a l true e ln lk =
    let s = steps_step i a in
    let l2 = noted_step i m a l in
    let next : noted_local i m n (step i a) l2 ≡ noted_local i m k (step i a) l2 = elim s.spent [
      | inl less ↦ enough i m n k (step i a) l2 _ refl (omega arith) (omega arith)
      | inr h ↦ noted_stays i m n (step i a) l2 (ending_stops _ h.1) ∙ sym (noted_stays i m k (step i a) l2 (ending_stops _ h.1))
    ] in
    noted_goes_on i m n a l e ∙ next ∙ sym (noted_goes_on i m k a l e)

-- an actor that runs is noted up to where it rests as after its next step
pub noted_next : (i : Image) (m : Makings) (a : ActorState) (l : Noted) → is_running a.phase ≡ true → noted_rest i m (step i a) (noted_step i m a l) ≡ noted_rest i m a l
unfolding noted_rest
noted_next i m a l e =
    let s = steps_step i a in
    let l2 = noted_step i m a l in
    let next : noted_local i m ((step i a).fuel + 1) (step i a) l2 ≡ noted_local i m a.fuel (step i a) l2 = elim s.spent [
      | inl less ↦ enough i m ((step i a).fuel + 1) a.fuel (step i a) l2 _ refl (omega arith) (omega arith)
      | inr h ↦ noted_stays i m ((step i a).fuel + 1) (step i a) l2 (ending_stops _ h.1) ∙ sym (noted_stays i m a.fuel (step i a) l2 (ending_stops _ h.1))
    ] in
    let one : a.fuel + 1 ≡ suc a.fuel = omega arith in
    next ∙ sym (ap (λ n. noted_local i m n a l) one ∙ noted_goes_on i m a.fuel a l e)

-- one that does not run is at rest
pub noted_done : (i : Image) (m : Makings) (a : ActorState) (l : Noted) → is_running a.phase ≡ false → noted_rest i m a l ≡ l
unfolding noted_rest
noted_done i m a l e = noted_stays i m (a.fuel + 1) a l e
