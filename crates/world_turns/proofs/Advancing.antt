-- A run goes on by a turn, or its actor has to wait.
use Rattle.std.proofs.Common.{◌≡◌, ℕ, zero, suc, ◌+◌, ◌-◌, List, [], ◌∷◌, ◌++◌, Bool, true, false, length, take, get_or, refl, sym, ap, subst, ◌∙◌, inl, inr, arith}
use Rattle.std.specs.Prelude.{Some, None}
use Rattle.wedge_base.specs.Images.{Image}
use Rattle.wedge_events.specs.Journals.{turns_of, numbered}
use Rattle.wedge_events.specs.declared.cells.GateAsk.TheVariants as gate_ask
use Rattle.wedge_events.specs.declared.events.Event.{Event}
use Rattle.wedge_events.specs.declared.events.Want.TheVariants as want
use Rattle.wedge_events.specs.declared.events.LogEntry.{LogEntry}
use Rattle.wedge_events.specs.declared.events.Turn.{Turn}
use Rattle.machine.specs.Actors.{ActorState}
use Rattle.machine.specs.Cells.{Cells}
use Rattle.machine.specs.Worlds.{WorldState, initial_state, actor_named, at_rest, Runs, all_at_rest}
use Rattle.run_laws.specs.FamilyTrees.{Family}
use Rattle.machine.specs.Local.{has_ended}
use Rattle.machine.specs.Take.{current_want, wanted_at}
use Rattle.run_laws.proofs.FamilyRuns.{turn_family}
use Rattle.run_laws.proofs.GrantedCopies.{runs_alone}
use Rattle.run_laws.proofs.Settling.{AllReady, all_alike, run_ready}
use Rattle.world_turns.specs.Progress.{Progress, IsRunSoFar, IsTurn, HasEnded, IsWaiting, IsBusy, AreRecorded, TookTurnOf, state_of, rested, rested_in}
use Rattle.world_turns.specs.declared.turns.Went.{Went}
use Rattle.world_turns.specs.declared.turns.Went.TheVariants as went
use Rattle.world_turns.specs.Progress.{IsStampedByIndex}
use Rattle.world_turns.specs.Turning.{WasTaken, HasWaited, HasMetBusy}
use Rattle.world_turns.proofs.AtRest.{family_at_rest, recorded_alike}
use Rattle.world_turns.proofs.Numbering.{entry, numbered-push, turns_of-numbered, is_numbered, notes_turns, notes_numbered}
use Rattle.world_turns.proofs.Replays.{has_ended_turn, waiting_turn, waiting_lives, busy_turn, busy_lives}
use Rattle.world_turns.proofs.Turning.{run_goes_on, rested_settled, not_ended}

-- what the type of a world keeps
pub record IsKept (i : Image) (cells : Cells) (actors : List ActorState) (entries : List LogEntry) (stopped : Bool) : Type 0 where
  pub numbered : IsStampedByIndex entries
  pub run : IsRunSoFar (record { state = state_of i cells actors; turns = turns_of entries; stopped = stopped })
  pub family : stopped ≡ false → Family actors

-- the actors of a world that has not stopped rest as those of a run do
pub run_is_ready : (p : Progress) → IsRunSoFar p → p.stopped ≡ false → AllReady p.state
run_is_ready p r going = all_alike p.state r.last (r.current going) (run_ready p.state.image p.turns r.last r.run)

pub kept_taken : (i : Image) (cells new_cells : Cells) (actors new : List ActorState) (entries new_entries : List LogEntry) (name : List ℕ) (stopped : Bool)
    → IsKept i cells actors entries stopped → stopped ≡ false → WasTaken i cells actors entries name new_cells new new_entries → IsKept i new_cells new new_entries stopped
kept_taken i cells new_cells actors new entries new_entries name stopped k going t = record {
  numbered = notes_numbered entries new_entries name t.event t.noted k.numbered;
  run = run_goes_on i cells new_cells actors new (turns_of entries) (turns_of new_entries) name t.event stopped k.run going t.turn (notes_turns entries new_entries name t.event t.noted);
  family = λ on. turn_family (state_of i cells actors) name t.event (state_of i new_cells new)
      (run_is_ready (record { state = state_of i cells actors; turns = turns_of entries; stopped = stopped }) k.run going) (k.family going) t.turn;
}

-- where it goes on
pub goes_on_by : (i : Image) (cells new_cells : Cells) (actors new : List ActorState) (entries new_entries : List LogEntry) (name : List ℕ) (stopped : Bool)
    → WasTaken i cells actors entries name new_cells new new_entries
    → TookTurnOf (record { state = state_of i cells actors; turns = turns_of entries; stopped = stopped }) name (record { state = state_of i new_cells new; turns = turns_of new_entries; stopped = stopped })
goes_on_by i cells new_cells actors new entries new_entries name stopped t = record {
  event = t.event;
  turn = t.turn;
  noted = notes_turns entries new_entries name t.event t.noted;
}

-- a run whose actor is at rest has come no further
kept_rested : (i : Image) (cells new_cells : Cells) (actors new : List ActorState) (entries new_entries : List LogEntry) (name : List ℕ) (stopped : Bool) (a : ActorState) → actor_named actors name ≡ Some a → has_ended a.phase ≡ false
    → IsKept i cells actors entries stopped → state_of i new_cells new ≡ rested (state_of i cells actors) name → new_entries ≡ entries → IsKept i new_cells new new_entries stopped
kept_rested i cells new_cells actors new entries new_entries name stopped a named lives k rests same =
    let w = state_of i cells actors in
    subst (λ es. IsKept i new_cells new es stopped) (sym same)
    (record {
      numbered = k.numbered;
      run = record {
        last = k.run.last;
        run = k.run.run;
        current = λ going. (ap all_at_rest rests ∙ rested_settled w name a named) ∙ k.run.current going;
      };
      family = λ going. subst Family (sym (ap (λ (x : WorldState). x.actors) rests ∙ ap (rested_in i actors) named)) (family_at_rest w name a (k.family going) named lives);
    })

pub kept_same : (i : Image) (cells new_cells : Cells) (actors new : List ActorState) (entries new_entries : List LogEntry) (stopped : Bool)
    → IsKept i cells actors entries stopped → new_cells ≡ cells → new ≡ actors → new_entries ≡ entries → IsKept i new_cells new new_entries stopped
kept_same i cells new_cells actors new entries new_entries stopped k c a e =
    subst (λ x. IsKept i x new new_entries stopped) (sym c)
    (subst (λ as_. IsKept i cells as_ new_entries stopped) (sym a)
    (subst (λ es. IsKept i cells actors es stopped) (sym e) k))

-- whatever came of a turn
pub kept_by : (r : Went) (i : Image) (cells new_cells : Cells) (actors new : List ActorState) (entries new_entries : List LogEntry) (name : List ℕ) (stopped : Bool)
    → IsKept i cells actors entries stopped → stopped ≡ false
    → (r ≡ went.Took → WasTaken i cells actors entries name new_cells new new_entries) → (r ≡ went.Ended → HasEnded actors name × (new_cells ≡ cells) × (new ≡ actors))
    → (r ≡ went.Waits → HasWaited i cells actors name new_cells new) → (r ≡ went.Busy → HasMetBusy i cells actors name new_cells new) → ((r ≡ went.Took → ⊥) → new_entries ≡ entries)
    → IsKept i new_cells new new_entries stopped
kept_by went.Took i cells new_cells actors new entries new_entries name stopped k going took ended waits busy same = kept_taken i cells new_cells actors new entries new_entries name stopped k going (took refl)
kept_by went.Ended i cells new_cells actors new entries new_entries name stopped k going took ended waits busy same = let e = ended refl in kept_same i cells new_cells actors new entries new_entries stopped k e.1 e.2 (same (λ is. cc))
kept_by went.Waits i cells new_cells actors new entries new_entries name stopped k going took ended waits busy same =
    let h = waits refl in
    kept_rested i cells new_cells actors new entries new_entries name stopped h.waits.actor h.waits.named (waiting_lives (state_of i cells actors) name h.waits) k h.rests (same (λ is. cc))
kept_by went.Busy i cells new_cells actors new entries new_entries name stopped k going took ended waits busy same =
    let h = busy refl in
    kept_rested i cells new_cells actors new entries new_entries name stopped h.busy.actor h.busy.named (busy_lives (state_of i cells actors) name h.busy) k h.rests (same (λ is. cc))

-- an actor that is in a recycled gate is so in the run that led here
pub run_recorded : (p : Progress) → IsRunSoFar p → p.stopped ≡ false → AreRecorded p.state.cells p.state.actors
run_recorded p r going = recorded_alike p.state r.last (r.current going) (λ name a named id h. (runs_alone p.state.image p.turns r.last r.run).entered name a id named h)

-- ---- who has ended, or waits, or finds the gate busy, takes no turn

pub ended_turns_not : {A : Type 0} (w : WorldState) (name : List ℕ) (e : Event) (new : WorldState) → HasEnded w.actors name → IsTurn w name e new → A
ended_turns_not w name e new ended turn = let none = has_ended_turn w name ended in absurd cc

pub waiting_turns_not : {A : Type 0} (w : WorldState) (name : List ℕ) (e : Event) (new : WorldState) → IsWaiting w name → IsTurn w name e new → A
waiting_turns_not w name e new waits turn = let none = waiting_turn w name waits in absurd cc

pub waiting_ended_not : {A : Type 0} (w : WorldState) (name : List ℕ) → IsWaiting w name → HasEnded w.actors name → A
waiting_ended_not w name waits ended = not_ended w.actors name waits.actor waits.named (waiting_lives w name waits) ended

pub busy_turns_not : {A : Type 0} (w : WorldState) (name : List ℕ) (e : Event) (new : WorldState) → IsBusy w name → IsTurn w name e new → A
busy_turns_not w name e new busy turn = let none = busy_turn w name busy in absurd cc

pub busy_ended_not : {A : Type 0} (w : WorldState) (name : List ℕ) → IsBusy w name → HasEnded w.actors name → A
busy_ended_not w name busy ended = not_ended w.actors name busy.actor busy.named (busy_lives w name busy) ended

pub busy_waits_not : {A : Type 0} (w : WorldState) (name : List ℕ) → IsBusy w name → IsWaiting w name → A
busy_waits_not w name busy waits = elim waits.awaits [
  | inl joins ↦ let both : Some (want.Gate busy.gate (gate_ask.Enter busy.run busy.first)) ≡ Some (want.Join waits.number) = sym busy.wants ∙ (same_one ∙ joins) in absurd cc
  | inr at ↦ let both : Some (want.Gate busy.gate (gate_ask.Enter busy.run busy.first)) ≡ None = sym busy.wants ∙ (same_one ∙ ap (wanted_at (at_rest w waits.actor)) at) in absurd cc
]
  where
    two : Some busy.actor ≡ Some waits.actor
    two = sym busy.named ∙ waits.named

    same_one : current_want (at_rest w busy.actor) ≡ current_want (at_rest w waits.actor)
    same_one = let one : busy.actor ≡ waits.actor = cc in ap (λ x. current_want (at_rest w x)) one

-- ---- a turn whose event can't be copied

pub record IsUndone (entries popped : List LogEntry) : Type 0 where
  pub turns : turns_of popped ≡ turns_of entries
  pub numbered : IsStampedByIndex popped

pub length-push : {X : Type 0} (xs : List X) (x : X) → length (xs ++ x ∷ []) ≡ length xs + 1
length-push [] x = refl
length-push (y ∷ ys) x = let h = length-push ys x in omega (arith, h)

take_push : {X : Type 0} (xs : List X) (x : X) → take (length (xs ++ x ∷ []) - 1) (xs ++ x ∷ []) ≡ xs
take_push [] x = refl
take_push (y ∷ ys) x =
    let len : length (ys ++ x ∷ []) ≡ length ys + 1 = length-push ys x in
    let one : length ((y ∷ ys) ++ x ∷ []) - 1 ≡ suc (length (ys ++ x ∷ []) - 1) = omega (arith, len) in
    ap (λ n. take n ((y ∷ ys) ++ x ∷ [])) one ∙ ap (λ zs. y ∷ zs) (take_push ys x)

pub undone : (entries more popped : List LogEntry) (t : Turn) → IsStampedByIndex more → turns_of more ≡ turns_of entries ++ t ∷ [] → popped ≡ take (length more - 1) more → IsUndone entries popped
undone entries more popped t numbered_ noted is =
    let ts = turns_of entries in
    let are : popped ≡ numbered 1 ts = is ∙ (ap (λ es. take (length es - 1) es) (numbered_ ∙ (ap (numbered 1) noted ∙ numbered-push 1 ts t)) ∙ take_push (numbered 1 ts) (entry (1 + length ts) t)) in
    record {
      turns = ap turns_of are ∙ turns_of-numbered 1 ts;
      numbered = is_numbered ts popped are;
    }

-- the event of the last of the turns
pub last_is : (es : List LogEntry) (n : ℕ) (x : LogEntry) (before : List Turn) (t : Turn) → n + 1 ≡ length es → x ≡ get_or es n x → turns_of es ≡ before ++ t ∷ [] → x.event ≡ t.event
last_is [] n x before t len at is = absurd (omega (arith, len))
last_is (y ∷ ys) zero x [] t len at is = let one : record { actor = y.actor; event = y.event } ≡ t = cc in ap (λ (z : LogEntry). z.event) at ∙ ap (λ (u : Turn). u.event) one
last_is (y ∷ []) zero x (b ∷ []) t len at is = absurd cc
last_is (y ∷ []) zero x (b ∷ c ∷ cs) t len at is = absurd cc
last_is (y ∷ z ∷ zs) zero x (b ∷ bs) t len at is = absurd (omega (arith, len))
last_is (y ∷ []) (suc n) x before t len at is = absurd (omega (arith, len))
last_is (y ∷ z ∷ zs) (suc n) x [] t len at is = absurd cc
last_is (y ∷ z ∷ zs) (suc n) x (b ∷ bs) t len at is = last_is (z ∷ zs) n x bs t (omega (arith, len)) at (let tails : turns_of (z ∷ zs) ≡ bs ++ t ∷ [] = cc in tails)

pub stopped_run : (i j : Image) (cells : Cells) (actors : List ActorState) (turns back : List Turn) (last : WorldState) → j ≡ i → back ≡ turns → Runs (initial_state i) turns last
    → IsRunSoFar (record { state = state_of j cells actors; turns = back; stopped = true })
stopped_run i j cells actors turns back last image same run = record {
  last = last;
  run = subst (λ k. Runs (initial_state k) back last) (sym image) (subst (λ ts. Runs (initial_state i) ts last) (sym same) run);
  current = λ e. absurd cc;
}
