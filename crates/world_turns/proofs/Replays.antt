-- What a schedule replays to.
use Rattle.std.proofs.Common.{◌≡◌, ℕ, zero, suc, ◌+◌, ◌<◌, ◌≤◌, Bool, true, false, true≢false, List, [], ◌∷◌, ◌++◌, length, get_or, take, drop, refl, sym, ap, subst, ◌∙◌, arith, inl, inr}
use Rattle.std.specs.Prelude.{Option, Some, None, option_map, Ok, Err, IsSomeAnd, if◌then◌else◌}
use Rattle.std.proofs.lemmas.List.{map-append}
use Rattle.wedge_base.specs.Images.{Image}
use Rattle.wedge_events.specs.Journals.{turns_of}
use Rattle.wedge_events.specs.declared.cells.GateAsk.TheVariants as gate_ask
use Rattle.wedge_events.specs.declared.events.Ask.TheVariants as ask
use Rattle.wedge_events.specs.declared.events.Want.TheVariants as want
use Rattle.wedge_events.specs.declared.events.Event.{Event}
use Rattle.wedge_events.specs.declared.events.Event.TheVariants as event
use Rattle.wedge_events.specs.declared.events.Turn.{Turn}
use Rattle.wedge_base.specs.declared.rights.End.{End}
use Rattle.machine.specs.Actors.{ActorState}
use Rattle.machine.specs.Cells.{event_of}
use Rattle.machine.specs.Local.{has_ended}
use Rattle.run_laws.specs.Moments.{EachTurn}
use Rattle.machine.specs.Children.{child_name}
use Rattle.machine.specs.Take.{current_want, wanted_at}
use Rattle.machine.specs.declared.phase.Phase.{Phase}
use Rattle.machine.specs.declared.phase.Phase.TheVariants as phase
use Rattle.machine.specs.Worlds.{WorldState, Taken, initial_state, actor_named, is_ended, join_event, event_at, apply_event, wanting, turn_with, turn_of, resumed, at_rest, Runs, is_complete}
use Rattle.run_laws.proofs.FamilyRuns.{names_distinct, fuel_kept}
use Rattle.run_laws.proofs.WorkLeft.{runs_end}
use Rattle.run_laws.proofs.BoundedGates.{root_bounds}
use Rattle.run_laws.proofs.AllEnd.{ended_have_joined, all_have_ended}
use Rattle.run_laws.proofs.GrantedCopies.{copies_granted, runs_alone}
use Rattle.run_laws.proofs.GatesWithin.{none_within, held_older}
use Rattle.run_laws.proofs.KnownGates.{gates_kept}
use Rattle.run_laws.proofs.FittingAsks.{asks_fit}
use Rattle.run_laws.proofs.ImagesRanges.{ranges_kept}
use Rattle.run_laws.proofs.OccupiedRuns.{slots_occupied}
use Rattle.run_laws.proofs.Mediating.{moments_lawful}
use Rattle.run_laws.proofs.TakingPlace.{calls_take_place}
use Rattle.run_laws.proofs.Writing.{runs_write_their_own}
use Rattle.run_laws.proofs.Readers.{runs_read_their_own}
use Rattle.run_laws.proofs.LiveSthreads.{lives_are_counted}
use Rattle.run_laws.proofs.Named.{found_name}
use Rattle.run_laws.proofs.Settling.{at_rest-name, at_rest-ended, at_rest-stays, resumed_event}
use Rattle.world_turns.specs.declared.error.Why.TheVariants as why
use Rattle.world_turns.specs.Progress.{Progress, IsTurn, HasEnded, Awaits, IsWaiting, IsBusy}
use Rattle.run_laws.specs.CompleteRuns.{IsSoundState, IsCompleteRun, RootGoesOn}
use Rattle.world_turns.specs.Replay.{why_held, why_of, why_none, replay_from, names_of, Follows, CompleteRunsReplay, ReplaysAreComplete, JournalsReplay}
use Rattle.world_turns.proofs.AtRest.{none_with}
use Rattle.world_turns.proofs.Runs.{Runs-push}

-- ---- one name

-- what comes of a name, by its turn, before the end of the root
by_taken : (w : WorldState) (at : ℕ) (name : List ℕ) (names : List (List ℕ)) (o : Option Taken) → is_complete w ≡ false → turn_of w name ≡ o
    → replay_from w at (name ∷ names) ≡ elim o [ None ↦ Err (at, why_none w name) | Some t ↦ replay_from t.world (at + 1) names ]
by_taken w at name names o going turn =
    ap (λ b. if b then Err (at, why.Extra) else elim (turn_of w name) [ None ↦ Err (at, why_none w name) | Some t ↦ replay_from t.world (at + 1) names ]) going
    ∙ ap (λ (x : Option Taken). elim x [ None ↦ Err (at, why_none w name) | Some t ↦ replay_from t.world (at + 1) names ]) turn

pub replayed_on : (w : WorldState) (at : ℕ) (name : List ℕ) (names : List (List ℕ)) (e : Event) (new : WorldState) → is_complete w ≡ false → IsTurn w name e new
    → replay_from w at (name ∷ names) ≡ replay_from new (at + 1) names
replayed_on w at name names e new going turn = by_taken w at name names (Some (record { event = e; world = new })) going turn

pub replayed_none : (w : WorldState) (at : ℕ) (name : List ℕ) (names : List (List ℕ)) → is_complete w ≡ false → turn_of w name ≡ None
    → replay_from w at (name ∷ names) ≡ Err (at, why_none w name)
replayed_none w at name names going turn = by_taken w at name names None going turn

pub replayed_extra : (w : WorldState) (at : ℕ) (name : List ℕ) (names : List (List ℕ)) → is_complete w ≡ true → replay_from w at (name ∷ names) ≡ Err (at, why.Extra)
replayed_extra w at name names whole =
    ap (λ b. if b then Err (at, why.Extra) else elim (turn_of w name) [ None ↦ Err (at, why_none w name) | Some t ↦ replay_from t.world (at + 1) names ]) whole

pub replayed_complete : (w : WorldState) (at : ℕ) → is_complete w ≡ true → replay_from w at [] ≡ Ok w
replayed_complete w at whole = ap (λ b. if b then Ok w else Err (at, why.Short)) whole

pub replayed_short : (w : WorldState) (at : ℕ) → is_complete w ≡ false → replay_from w at [] ≡ Err (at, why.Short)
replayed_short w at going = ap (λ b. if b then Ok w else Err (at, why.Short)) going

-- no actor of the name
unknown_turn : (w : WorldState) (name : List ℕ) → actor_named w.actors name ≡ None → turn_of w name ≡ None
unfolding turn_of
unknown_turn w name none = ap (turn_with w) none

pub replayed_unknown : (w : WorldState) (at : ℕ) (name : List ℕ) (names : List (List ℕ)) → is_complete w ≡ false → actor_named w.actors name ≡ None
    → replay_from w at (name ∷ names) ≡ Err (at, why.Unknown)
replayed_unknown w at name names going none = replayed_none w at name names going (unknown_turn w name none) ∙ ap (λ o. Err (at, why_of w o)) none

-- an actor that has ended wants nothing
ended_wants : (a : ActorState) (p : Phase) → has_ended p ≡ true → wanted_at a p ≡ None
ended_wants a phase.Running e = cc
ended_wants a (phase.Within q) e = cc
ended_wants a (phase.Starting pre) e = cc
ended_wants a (phase.MakingGate pre) e = cc
ended_wants a (phase.Opening slot tag) e = cc
ended_wants a (phase.Releasing slot) e = cc
ended_wants a (phase.Entering entrance) e = cc
ended_wants a (phase.Waiting number) e = cc
ended_wants a (phase.OpeningFile o) e = cc
ended_wants a (phase.Ending x) e = cc
ended_wants a (phase.Ended x) e = refl

ended_turn : (w : WorldState) (o : Option ActorState) → IsSomeAnd o (λ (a : ActorState). has_ended a.phase ≡ true) → turn_with w o ≡ None
ended_turn w None h = absurd h
ended_turn w (Some a) h = ap (λ (x : ActorState). wanting (resumed w a) x (current_want x)) (at_rest-stays w a h) ∙ ap (wanting (resumed w a) a) (ended_wants a a.phase h)

ended_why : (w : WorldState) (o : Option ActorState) → IsSomeAnd o (λ (a : ActorState). has_ended a.phase ≡ true) → why_of w o ≡ why.Ended
ended_why w None h = absurd h
ended_why w (Some a) h = ap (λ t. if t then why.Ended else why_held (current_want (at_rest w a))) h

pub has_ended_turn : (w : WorldState) (name : List ℕ) → HasEnded w.actors name → turn_of w name ≡ None
unfolding turn_of
has_ended_turn w name h = ended_turn w (actor_named w.actors name) h

pub replayed_ended : (w : WorldState) (at : ℕ) (name : List ℕ) (names : List (List ℕ)) → is_complete w ≡ false → HasEnded w.actors name
    → replay_from w at (name ∷ names) ≡ Err (at, why.Ended)
replayed_ended w at name names going h = replayed_none w at name names going (has_ended_turn w name h) ∙ ap (λ y. Err (at, y)) (ended_why w (actor_named w.actors name) h)

-- an actor that waits for a child, or for the run of a gate
no_event : (k : ℕ) (o : Option ActorState) → is_ended o ≡ false → join_event k o ≡ None
no_event k o e = ap (option_map (λ (x : End × ℕ). event.Join k x.0 x.1)) (none_with o e)

pub waiting_turn : (w : WorldState) (name : List ℕ) → IsWaiting w name → turn_of w name ≡ None
unfolding turn_of
waiting_turn w name s = ap (turn_with w) s.named ∙ by_case s.awaits
  where
    b : ActorState
    b = at_rest w s.actor

    v : WorldState
    v = resumed w s.actor

    by_case : Awaits b s.number → wanting v b (current_want b) ≡ None
    by_case (inl wants) =
        let own : b.name ≡ name = at_rest-name w s.actor ∙ found_name w.actors name s.actor s.named in
        let there : actor_named w.actors s.actor.name ≡ Some s.actor = ap (actor_named w.actors) (found_name w.actors name s.actor s.named) ∙ s.named in
        let none : event_at v b (want.Join s.number) ≡ None = resumed_event w s.actor b (want.Join s.number) there
        ∙ (ap (λ n. join_event s.number (actor_named w.actors (child_name n s.number))) own ∙ no_event s.number (actor_named w.actors (child_name name s.number)) s.not_ended) in
        ap (wanting v b) wants ∙ ap (option_map (apply_event v b)) none
    by_case (inr at) = ap (λ p. wanting v b (wanted_at b p)) at

-- it has not ended
pub waiting_lives : (w : WorldState) (name : List ℕ) (s : IsWaiting w name) → has_ended s.actor.phase ≡ false
waiting_lives w name s = by_end (has_ended s.actor.phase) refl s.awaits
  where
    by_end : (t : Bool) → has_ended s.actor.phase ≡ t → Awaits (at_rest w s.actor) s.number → has_ended s.actor.phase ≡ false
    by_end false e h = e
    by_end true e (inl wants) =
        let none : current_want (at_rest w s.actor) ≡ None = ap (λ (x : ActorState). current_want x) (at_rest-stays w s.actor e) ∙ ended_wants s.actor s.actor.phase e in
        let f : Some (want.Join s.number) ≡ None = sym wants ∙ none in
        absurd cc
    by_end true e (inr at) = absurd (true≢false (sym e ∙ (sym (at_rest-ended w s.actor) ∙ ap has_ended at)))

pub replayed_waits : (w : WorldState) (at : ℕ) (name : List ℕ) (names : List (List ℕ)) → is_complete w ≡ false → IsWaiting w name
    → replay_from w at (name ∷ names) ≡ Err (at, why.Waits)
replayed_waits w at name names going s =
    replayed_none w at name names going (waiting_turn w name s)
    ∙ ap (λ y. Err (at, y)) (ap (why_of w) s.named ∙ (ap (λ t. if t then why.Ended else why_held (current_want (at_rest w s.actor))) (waiting_lives w name s) ∙ by_case s.awaits))
  where
    by_case : Awaits (at_rest w s.actor) s.number → why_held (current_want (at_rest w s.actor)) ≡ why.Waits
    by_case (inl wants) = ap why_held wants
    by_case (inr at_) = ap (λ p. why_held (wanted_at (at_rest w s.actor) p)) at_

-- an actor that is to enter a recycled gate in which a run is
pub busy_turn : (w : WorldState) (name : List ℕ) → IsBusy w name → turn_of w name ≡ None
unfolding turn_of
busy_turn w name s =
    let b = at_rest w s.actor in
    let v = resumed w s.actor in
    let none : event_at v b (want.Gate s.gate (gate_ask.Enter s.run s.first)) ≡ None =
    ap (λ t. if t then None else event_of w.cells (ask.Gate s.gate (gate_ask.Enter s.run s.first))) s.entered in
    ap (turn_with w) s.named ∙ (ap (wanting v b) s.wants ∙ ap (option_map (apply_event v b)) none)

pub busy_lives : (w : WorldState) (name : List ℕ) (s : IsBusy w name) → has_ended s.actor.phase ≡ false
busy_lives w name s = by_end (has_ended s.actor.phase) refl
  where
    by_end : (t : Bool) → has_ended s.actor.phase ≡ t → has_ended s.actor.phase ≡ false
    by_end false e = e
    by_end true e =
        let none : current_want (at_rest w s.actor) ≡ None = ap (λ (x : ActorState). current_want x) (at_rest-stays w s.actor e) ∙ ended_wants s.actor s.actor.phase e in
        let f : Some (want.Gate s.gate (gate_ask.Enter s.run s.first)) ≡ None = sym s.wants ∙ none in
        absurd cc

pub replayed_busy : (w : WorldState) (at : ℕ) (name : List ℕ) (names : List (List ℕ)) → is_complete w ≡ false → IsBusy w name
    → replay_from w at (name ∷ names) ≡ Err (at, why.Busy)
replayed_busy w at name names going s =
    replayed_none w at name names going (busy_turn w name s)
    ∙ ap (λ y. Err (at, y)) (ap (why_of w) s.named ∙ (ap (λ t. if t then why.Ended else why_held (current_want (at_rest w s.actor))) (busy_lives w name s) ∙ ap why_held s.wants))

pub not_true : (b : Bool) → (b ≡ true → ⊥) → b ≡ false
not_true false h = refl
not_true true h = absurd (h refl)

-- ---- runs

-- a turn leads to one world
one_world : (w a b : WorldState) (t : Turn) → turn_of w t.actor ≡ Some (record { event = t.event; world = a }) → turn_of w t.actor ≡ Some (record { event = t.event; world = b }) → a ≡ b
one_world w a b t to_a to_b =
    let one : record { event = t.event; world = a } ≡ record { event = t.event; world = b } = cc in ap (λ (x : Taken). x.world) one

-- what holds of each step so far and of the next holds of each
pub EachTurn-push : (P : WorldState → Turn → WorldState → Type 0) (old mid new : WorldState) (turns : List Turn) (t : Turn) → EachTurn P old turns → Runs old turns mid
    → turn_of mid t.actor ≡ Some (record { event = t.event; world = new }) → P mid t new → EachTurn P old (turns ++ t ∷ [])
EachTurn-push P old mid new [] t each run e h =
    subst (λ w. (m : WorldState) × (turn_of w t.actor ≡ Some (record { event = t.event; world = m })) × P w t m × Unit {0}) run (new, e, h, tt)
EachTurn-push P old mid new (u ∷ us) t each run e h =
    let is = one_world old run.0 each.0 u run.1 each.1 in
    (each.0, each.1, each.2, EachTurn-push P each.0 mid new us t each.3 (subst (λ w. Runs w us mid) is run.2) e h)

complete_replays : (w : WorldState) (at : ℕ) (turns : List Turn) (last : WorldState) → Runs w turns last → is_complete last ≡ true → RootGoesOn w turns → replay_from w at (names_of turns) ≡ Ok last
complete_replays w at [] last run whole goes = replayed_complete w at (ap is_complete (sym run) ∙ whole) ∙ ap (λ x. Ok x) (sym run)
complete_replays w at (t ∷ ts) last run whole goes =
    let is = one_world w goes.0 run.0 t goes.1 run.1 in
    replayed_on w at t.actor (names_of ts) t.event run.0 goes.2 run.1
    ∙ complete_replays run.0 (at + 1) ts last run.2 whole (subst (λ m. RootGoesOn m ts) is goes.3)

pub complete_runs_replay : CompleteRunsReplay
complete_runs_replay i turns last run whole goes = complete_replays (initial_state i) 1 turns last run whole goes

pub journals_replay : JournalsReplay
journals_replay i entries outcome whole = (whole.last, complete_runs_replay i (turns_of entries) whole.last whole.run.run whole.run.complete whole.run.goes_on, whole.ends)

-- a complete run by these names
record IsBy (names : List (List ℕ)) (old last : WorldState) : Type 0 where
  turns : List Turn
  by_names : names_of turns ≡ names
  run : Runs old turns last
  whole : is_complete last ≡ true
  goes_on : RootGoesOn old turns

none_left : (w : WorldState) (at : ℕ) (last : WorldState) (t : Bool) → is_complete w ≡ t → replay_from w at [] ≡ Ok last → IsBy [] w last
none_left w at last false e r = let short = replayed_short w at e in absurd cc
none_left w at last true e r =
    let here = replayed_complete w at e in
    let is : w ≡ last = cc in
    record { turns = []; by_names = refl; run = sym is; whole = subst (λ x. is_complete x ≡ true) is e; goes_on = tt }

by_first : (w : WorldState) (name : List ℕ) (names : List (List ℕ)) (t : Taken) (last : WorldState) → is_complete w ≡ false → turn_of w name ≡ Some t → IsBy names t.world last → IsBy (name ∷ names) w last
by_first w name names t last going turn rest = record {
  turns = record { actor = name; event = t.event } ∷ rest.turns;
  by_names = ap (λ ns. name ∷ ns) rest.by_names;
  run = (t.world, turn, rest.run);
  whole = rest.whole;
  goes_on = (t.world, turn, going, rest.goes_on);
}

by_turn : (w : WorldState) (at : ℕ) (name : List ℕ) (names : List (List ℕ)) (last : WorldState) (o : Option Taken) → is_complete w ≡ false → turn_of w name ≡ o
    → ((new : WorldState) → replay_from new (at + 1) names ≡ Ok last → IsBy names new last) → replay_from w at (name ∷ names) ≡ Ok last → IsBy (name ∷ names) w last
by_turn w at name names last None going turn rest r = let none = replayed_none w at name names going turn in absurd cc
by_turn w at name names last (Some t) going turn rest r =
    by_first w name names t last going turn (rest t.world (sym (replayed_on w at name names t.event t.world going turn) ∙ r))

by_end : (w : WorldState) (at : ℕ) (name : List ℕ) (names : List (List ℕ)) (last : WorldState) (t : Bool) → is_complete w ≡ t
    → ((new : WorldState) → replay_from new (at + 1) names ≡ Ok last → IsBy names new last) → replay_from w at (name ∷ names) ≡ Ok last → IsBy (name ∷ names) w last
by_end w at name names last true e rest r = let extra = replayed_extra w at name names e in absurd cc
by_end w at name names last false e rest r = by_turn w at name names last (turn_of w name) e refl rest r

replays_by : (names : List (List ℕ)) (w : WorldState) (at : ℕ) (last : WorldState) → replay_from w at names ≡ Ok last → IsBy names w last
replays_by [] w at last r = none_left w at last (is_complete w) refl r
replays_by (name ∷ names) w at last r = by_end w at name names last (is_complete w) refl (λ new. replays_by names new (at + 1) last) r

-- each state of a run is sound
sound_state : (i : Image) (turns : List Turn) (w : WorldState) → Runs (initial_state i) turns w → IsSoundState i w
sound_state i turns w run = record {
  distinct = names_distinct i turns w run;
  slots = (slots_occupied i turns w run).occupied;
  bounded = root_bounds i turns w run;
  copies = copies_granted i turns w run;
  ranges = ranges_kept i turns w run;
  gates = gates_kept i turns w run;
  runs = runs_alone i turns w run;
  within = none_within i turns w run;
  older = held_older i turns w run;
  lives = lives_are_counted i turns w run;
  joined = ended_have_joined i turns w run;
}

sound_states : (i : Image) (done turns : List Turn) (mid last : WorldState) → Runs (initial_state i) done mid → Runs mid turns last → EachTurn (λ old t new. IsSoundState i new) mid turns
sound_states i done [] mid last before run = tt
sound_states i done (t ∷ ts) mid last before run =
    let now = Runs-push (initial_state i) mid run.0 done t before run.1 in
    (run.0, run.1, sound_state i (done ++ t ∷ []) run.0 now, sound_states i (done ++ t ∷ []) ts run.0 last now run.2)

pub complete_of : (i : Image) (turns : List Turn) (last : WorldState) → Runs (initial_state i) turns last → is_complete last ≡ true → RootGoesOn (initial_state i) turns → IsCompleteRun i turns last
complete_of i turns last run complete goes = record {
  run = run;
  complete = complete;
  goes_on = goes;
  lawful = moments_lawful i turns last run;
  placed = calls_take_place i turns last run;
  begins = sound_state i [] (initial_state i) refl;
  sound = sound_states i [] turns (initial_state i) last refl run;
  ended = all_have_ended i turns last run complete;
  written = λ done left w is so. runs_write_their_own i done w so;
  read = runs_read_their_own i turns last run;
  all_fuel = (fuel_kept i turns last run).0;
  paid = (fuel_kept i turns last run).1;
  bound = runs_end i turns last run;
  suit = (slots_occupied i turns last run).suit;
  fit = asks_fit i turns last run;
}

pub replays_are_complete : ReplaysAreComplete
replays_are_complete i names last r =
    let by = replays_by names (initial_state i) 1 last r in
    (by.turns, by.by_names, complete_of i by.turns last by.run by.whole by.goes_on)

-- ---- a schedule so far

take_more : {X : Type 0} (xs : List X) (n : ℕ) (x : X) → n < length xs → x ≡ get_or xs n x → take (suc n) xs ≡ take n xs ++ x ∷ []
take_more [] n x lt is = absurd (omega (arith, lt))
take_more (y ∷ ys) zero x lt is = ap (λ z. z ∷ []) (sym is)
take_more (y ∷ ys) (suc n) x lt is = ap (λ zs. y ∷ zs) (take_more ys n x (omega (arith, lt)) is)

drop_at : {X : Type 0} (xs : List X) (n : ℕ) (x : X) → n < length xs → x ≡ get_or xs n x → drop n xs ≡ x ∷ drop (suc n) xs
drop_at [] n x lt is = absurd (omega (arith, lt))
drop_at (y ∷ ys) zero x lt is = ap (λ z. z ∷ ys) (sym is)
drop_at (y ∷ ys) (suc n) x lt is = drop_at ys n x (omega (arith, lt)) is

take_all : {X : Type 0} (xs : List X) (n : ℕ) → length xs ≤ n → take n xs ≡ xs
take_all [] zero le = refl
take_all [] (suc n) le = refl
take_all (x ∷ xs) zero le = absurd (omega (arith, le))
take_all (x ∷ xs) (suc n) le = ap (λ ys. x ∷ ys) (take_all xs n (omega (arith, le)))

drop_all : {X : Type 0} (xs : List X) (n : ℕ) → length xs ≤ n → drop n xs ≡ []
drop_all [] zero le = refl
drop_all [] (suc n) le = refl
drop_all (x ∷ xs) zero le = absurd (omega (arith, le))
drop_all (x ∷ xs) (suc n) le = drop_all xs n (omega (arith, le))

-- so many names of a schedule are replayed
pub record IsReplaying (i : Image) (names : List (List ℕ)) (n : ℕ) (p : Progress) : Type 0 where
  pub going : p.stopped ≡ false
  pub told : replay_from (initial_state i) 1 names ≡ replay_from p.state (n + 1) (drop n names)
  pub by_names : names_of p.turns ≡ take n names
  pub run : Runs (initial_state i) p.turns p.state
  pub goes_on : RootGoesOn (initial_state i) p.turns

pub replaying_first : (i : Image) (names : List (List ℕ)) (p : Progress) → p ≡ record { state = initial_state i; turns = []; stopped = false } → IsReplaying i names 0 p
replaying_first i names p is = subst (λ q. IsReplaying i names 0 q) (sym is) (record { going = refl; told = refl; by_names = refl; run = refl; goes_on = tt })

pub replaying_next : (i : Image) (names : List (List ℕ)) (n : ℕ) (name : List ℕ) (p q : Progress) → n < length names → name ≡ get_or names n name
    → IsReplaying i names n p → Follows p name q → IsReplaying i names (n + 1) q
replaying_next i names n name p q lt is was f =
    let t : Turn = record { actor = name; event = f.event } in
    let one : suc n ≡ n + 1 = omega arith in
    let left : drop n names ≡ name ∷ drop (n + 1) names = drop_at names n name lt is ∙ ap (λ k. name ∷ drop k names) one in
    record {
      going = f.going;
      told = was.told ∙ ap (replay_from p.state (n + 1)) left ∙ replayed_on p.state (n + 1) name (drop (n + 1) names) f.event q.state f.goes_on f.turn;
      by_names = ap names_of f.noted ∙ map-append (λ (x : Turn). x.actor) p.turns (t ∷ []) ∙ ap (λ ns. ns ++ name ∷ []) was.by_names ∙ sym (take_more names n name lt is) ∙ ap (λ k. take k names) one;
      run = rw f.noted (Runs-push (initial_state i) p.state q.state p.turns t was.run f.turn);
      goes_on = rw f.noted (EachTurn-push _ (initial_state i) p.state q.state p.turns t was.goes_on was.run f.turn f.goes_on);
    }

-- a name that is rejected
pub replaying_rest : (i : Image) (names : List (List ℕ)) (n : ℕ) (name : List ℕ) (p : Progress) → n < length names → name ≡ get_or names n name → IsReplaying i names n p
    → replay_from (initial_state i) 1 names ≡ replay_from p.state (n + 1) (name ∷ drop (suc n) names)
replaying_rest i names n name p lt is was = was.told ∙ ap (replay_from p.state (n + 1)) (drop_at names n name lt is)
