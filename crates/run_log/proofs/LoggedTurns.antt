-- A turn with its notes, part by part.
use Rattle.std.proofs.Common.{◌≡◌, ℕ, suc, zero, ◌+◌, ◌<◌, ◌≤◌, Bool, true, false, List, [], ◌∷◌, length, refl, sym, ap, subst, ◌∙◌, arith}
use Rattle.std.specs.Prelude.{Option, Some, None, slice_get, slice_set, option_map}
use Rattle.std.proofs.lemmas.List.{length-append}
use Rattle.wedge_base.specs.Images.{Image}
use Rattle.wedge_events.specs.declared.events.Event.{Event}
use Rattle.wedge_events.specs.declared.events.LogEntry.{LogEntry}
use Rattle.wedge_events.specs.declared.events.Turn.{Turn}
use Rattle.machine.specs.Actors.{ActorState}
use Rattle.machine.specs.Local.{rest, has_ended, is_running}
use Rattle.machine.specs.Take.{takes, actor_begun}
use Rattle.machine.specs.Cells.{Cells}
use Rattle.machine.specs.Children.{child_name}
use Rattle.machine.specs.Worlds.{WorldState, actor_named, put_actor, with_begun, ready, ready_at, resumes, ended_with, at_rest, all_at_rest}
use Rattle.run_laws.proofs.Between.{takes_name}
use Rattle.run_laws.proofs.Named.{found_name, put_put}
use Rattle.run_laws.proofs.Turns.{turn_from, ready_name}
use Rattle.run_notes.specs.Doers.{doer_of}
use Rattle.run_notes.specs.Notes.{Noted, noted_rest}
use Rattle.run_notes.proofs.NotedRests.{noted_done}
use Rattle.run_laws.specs.FamilyTrees.{Family}
use Rattle.wedge_base.specs.Names.{same}
use Rattle.run_notes.specs.declared.chain.CallChain.{CallChain}
use Rattle.world_turns.specs.Indices.{index_in}
use Rattle.run_log.specs.Logs.{Log}
use Rattle.run_log.specs.Logging.{with_noted, log_rest_by, log_rest, with_chain, log_event_by, log_event, log_turn_at, log_turn, log_rested_at, log_rested}
use Rattle.run_log.specs.LoggedParts.{log_noted, IsInStep, IsNotedAt, IsNotedFrom, ComesToRest, TookLogged, IsEventLogged, IsEventNoted, RestsAlready}
use Rattle.world_turns.specs.Progress.{Progress, IsTurn, IsFirstNamed, IsIndexOf, HasEnded, IsWaiting, IsBusy, TookTurnOf, state_of, rested, rested_in}
use Rattle.world_turns.specs.Turning.{HasGoneOn, StillWaits, HasWaited}
use Rattle.world_turns.proofs.Advancing.{IsKept, kept_same}
use Rattle.world_turns.proofs.AtRest.{family_at_rest, none_with}
use Rattle.run_log.proofs.Rested.{rested_turn, rested_twice, rested_waits, rested_busy, rested_found, rested_put, rested_lives, rests_already}
use Rattle.world_turns.proofs.Turning.{set_get, set_set, set_same, set_length, has_ended_there, still_waiting, rested_settled}

one_of : {x y : ActorState} → Some x ≡ Some y → x ≡ y
one_of e = cc

-- ---- the index of a name

-- where an actor that differs from the first of its name is put there and at an index, this is the
-- index of the name
fixed : (actors : List ActorState) (name : List ℕ) (index : ℕ) (x a : ActorState) → x.name ≡ name → slice_get actors index ≡ Some a → (x ≡ a → ⊥) → index < length actors
    → put_actor actors x ≡ slice_set actors index x → index_in actors name ≡ Some index
fixed [] name index x a own there apart inside put = absurd (omega (arith, inside))
fixed (y ∷ ys) name index x a own there apart inside put = by_same (same y.name name) refl (λ n. fixed ys name n x a own) index there inside put
  where
    tail_of : {u v : ActorState} {us vs : List ActorState} → u ∷ us ≡ v ∷ vs → us ≡ vs
    tail_of q = cc

    head_of : {u v : ActorState} {us vs : List ActorState} → u ∷ us ≡ v ∷ vs → u ≡ v
    head_of q = cc

    by_same : (t : Bool) → same y.name name ≡ t → ((n : ℕ) → slice_get ys n ≡ Some a → (x ≡ a → ⊥) → n < length ys → put_actor ys x ≡ slice_set ys n x → index_in ys name ≡ Some n)
        → (k : ℕ) → slice_get (y ∷ ys) k ≡ Some a → k < length (y ∷ ys) → put_actor (y ∷ ys) x ≡ slice_set (y ∷ ys) k x → index_in (y ∷ ys) name ≡ Some k
    by_same true e more zero at lt p = rw e refl
    by_same true e more (suc n) at lt p =
        let here : put_actor (y ∷ ys) x ≡ x ∷ ys = rw (ap (same y.name) own ∙ e) refl in
        let tails : ys ≡ slice_set ys n x = tail_of (sym here ∙ p) in
        let lower : n < length ys = omega (arith, lt) in
        let both : Some a ≡ Some x = sym at ∙ (ap (λ zs. slice_get zs n) tails ∙ set_get ys n x lower) in
        absurd (apart (sym (one_of both)))
    by_same false e more zero at lt p =
        let here : put_actor (y ∷ ys) x ≡ y ∷ put_actor ys x = rw (ap (same y.name) own ∙ e) refl in
        let heads : y ≡ x = head_of (sym here ∙ p) in
        absurd (apart (sym heads ∙ one_of at))
    by_same false e more (suc n) at lt p =
        let here : put_actor (y ∷ ys) x ≡ y ∷ put_actor ys x = rw (ap (same y.name) own ∙ e) refl in
        let lower : n < length ys = omega (arith, lt) in
        let later : index_in ys name ≡ Some n = more n at apart lower (tail_of (sym here ∙ p)) in
        let one : n + 1 ≡ suc n = omega arith in
        rw e (ap (option_map (λ k. k + 1)) later ∙ ap (λ k. Some k) one)

-- the index of the first actor of a name is the index of the name
pub index_fixed : (actors : List ActorState) (name : List ℕ) (index : ℕ) (a : ActorState) → IsFirstNamed actors name index a → index_in actors name ≡ Some index
index_fixed actors name index a found =
    let x : ActorState = record a { fuel = a.fuel + 1 } in
    let own : x.name ≡ name = found_name actors name a found.named in
    fixed actors name index x a own found.there (λ same_one. (let fuels = ap (λ (z : ActorState). z.fuel) same_one in absurd (omega (arith, fuels)))) found.inside (found.put x own)

-- ---- an actor goes on, and comes to rest

pub noted_from : (i : Image) (actors mid new : List ActorState) (name : List ℕ) (index : ℕ) (l m : Log) → HasGoneOn actors index name mid → IsNotedAt i mid l index new m → IsNotedFrom i actors name index l new m
noted_from i actors mid new name index l m g n =
    let b = ready actors g.actor in
    let is : n.actor ≡ b = one_of (sym n.there ∙ (ap (λ (as_ : List ActorState). slice_get as_ index) g.new_is ∙ set_get actors index b g.found.inside)) in
    record {
      actor = g.actor;
      found = g.found;
      awake = g.awake;
      new_is = n.new_is ∙ (ap (λ (as_ : List ActorState). slice_set as_ index (rest i n.actor)) g.new_is ∙ (set_set actors index b (rest i n.actor) ∙ ap (λ x. slice_set actors index (rest i x)) is));
      logged = n.logged ∙ ap (log_rest i l index) is;
    }

pub gone_length : (actors mid : List ActorState) (index : ℕ) (name : List ℕ) → HasGoneOn actors index name mid → length mid ≡ length actors
gone_length actors mid index name g = ap length g.new_is ∙ set_length actors index (ready actors g.actor)

pub gone_inside : (actors mid : List ActorState) (index : ℕ) (name : List ℕ) → HasGoneOn actors index name mid → index < length mid
gone_inside actors mid index name g = subst (λ n. index < n) (sym (gone_length actors mid index name g)) g.found.inside

-- an actor that has not ended
lives_there : (actors : List ActorState) (name : List ℕ) (a : ActorState) → actor_named actors name ≡ Some a → (HasEnded actors name → ⊥) → has_ended a.phase ≡ false
lives_there actors name a named lives = by_end (has_ended a.phase) refl
  where
    by_end : (t : Bool) → has_ended a.phase ≡ t → has_ended a.phase ≡ false
    by_end false e = e
    by_end true e = absurd (lives (has_ended_there actors name a named e))

noted_state : (i : Image) (cells : Cells) (actors new : List ActorState) (name : List ℕ) (index : ℕ) (l m : Log) → IsNotedFrom i actors name index l new m → state_of i cells new ≡ rested (state_of i cells actors) name
noted_state i cells actors new name index l m n = ap (state_of i cells) n.new_is ∙ rested_put (state_of i cells actors) name index n.actor n.found

-- a run whose actor is at rest has come no further
kept_rested : (i : Image) (cells : Cells) (actors new : List ActorState) (entries : List LogEntry) (name : List ℕ) (stopped : Bool) (a : ActorState) → actor_named actors name ≡ Some a → has_ended a.phase ≡ false
    → IsKept i cells actors entries stopped → state_of i cells new ≡ rested (state_of i cells actors) name → IsKept i cells new entries stopped
kept_rested i cells actors new entries name stopped a named lives k rests =
    let w = state_of i cells actors in
    record {
      numbered = k.numbered;
      run = record {
        last = k.run.last;
        run = k.run.run;
        current = λ going. (ap all_at_rest rests ∙ rested_settled w name a named) ∙ k.run.current going;
      };
      family = λ going. subst Family (sym (ap (λ (x : WorldState). x.actors) rests ∙ ap (rested_in i actors) named)) (family_at_rest w name a (k.family going) named lives);
    }

-- the world keeps what it keeps
pub kept_noted : (b : Bool) (i : Image) (cells : Cells) (actors new : List ActorState) (entries : List LogEntry) (name : List ℕ) (index : ℕ) (stopped : Bool) (l m : Log)
    → IsKept i cells actors entries stopped → (HasEnded actors name → ⊥) → (b ≡ true → IsNotedFrom i actors name index l new m) → (b ≡ false → StillWaits actors index name new) → IsKept i cells new entries stopped
kept_noted true i cells actors new entries name index stopped l m k lives noted waits =
    let n = noted refl in
    kept_rested i cells actors new entries name stopped n.actor n.found.named (lives_there actors name n.actor n.found.named lives) k (noted_state i cells actors new name index l m n)
kept_noted false i cells actors new entries name index stopped l m k lives noted waits =
    kept_same i cells cells actors new entries entries stopped k refl (waits refl).new_is refl

pub comes_to_rest : (i : Image) (cells : Cells) (actors new : List ActorState) (turns : List Turn) (stopped : Bool) (name : List ℕ) (index : ℕ) (l m : Log) → IsNotedFrom i actors name index l new m
    → ComesToRest (record { state = state_of i cells actors; turns = turns; stopped = stopped }) name index l (record { state = state_of i cells new; turns = turns; stopped = stopped }) m
comes_to_rest i cells actors new turns stopped name index l m n = record {
  actor = n.actor;
  found = n.found;
  awake = n.awake;
  new_is = ap (λ (s : WorldState). record { state = s; turns = turns; stopped = stopped }) (noted_state i cells actors new name index l m n);
  logged = n.logged;
}

-- the log of an actor that comes to rest, by its name
pub rested_log : (w : WorldState) (name : List ℕ) (index : ℕ) (a : ActorState) (l : Log) → IsFirstNamed w.actors name index a → log_rested w l name ≡ log_rest w.image l index (ready w.actors a)
unfolding log_rested
rested_log w name index a l found =
    ap (λ o. log_rested_at w l o (actor_named w.actors name)) (index_fixed w.actors name index a found) ∙ ap (λ o. log_rested_at w l (Some index) o) found.named

-- of one that does not run nothing is logged
still_log : (i : Image) (l : Log) (k : ℕ) (a : ActorState) → is_running a.phase ≡ false → log_rest i l k a ≡ l
still_log i l k a still = by_chain (slice_get l.chains k) refl
  where
    by_chain : (o : Option CallChain) → slice_get l.chains k ≡ o → log_rest_by i l k a o ≡ l
    by_chain None at = refl
    by_chain (Some c) at =
        let before : Noted = record { chain = c; notes = l.notes } in
        ap (with_noted l k) (noted_done i l.makings a before still) ∙ ap (λ cs. record l { chains = cs }) (set_same l.chains k c at)

-- one that waits still is as it was
pub record WaitsOn (p : Progress) (name : List ℕ) (l : Log) (q : Progress) (m : Log) : Type 0 where
  pub waits : IsWaiting p.state name
  pub rests : q ≡ record p { state = rested p.state name }
  pub logged : m ≡ log_rested p.state l name

pub waits_on : (i : Image) (cells : Cells) (actors new : List ActorState) (turns : List Turn) (stopped : Bool) (name : List ℕ) (index : ℕ) (l m : Log) → StillWaits actors index name new → m ≡ l
    → WaitsOn (record { state = state_of i cells actors; turns = turns; stopped = stopped }) name l (record { state = state_of i cells new; turns = turns; stopped = stopped }) m
waits_on i cells actors new turns stopped name index l m s same_log =
    let h : HasWaited i cells actors name cells new = still_waiting i cells cells actors new index name s refl in
    let a = s.actor in
    let own : a.name ≡ name = found_name actors name a s.found.named in
    let none : ended_with (actor_named actors (child_name a.name s.number)) ≡ None = ap (λ n. ended_with (actor_named actors (child_name n s.number))) own ∙ none_with (actor_named actors (child_name name s.number)) s.not_ended in
    let stays_so : ready actors a ≡ a = ap (ready_at actors a) s.at ∙ ap (resumes a s.number) none in
    record {
      waits = h.waits;
      rests = ap (λ (x : WorldState). record { state = x; turns = turns; stopped = stopped }) h.rests;
      logged = same_log ∙ sym (rested_log (state_of i cells actors) name index a l s.found ∙ (ap (log_rest i l index) stays_so ∙ still_log i l index a (ap is_running s.at)));
    }

-- ---- an event of an actor at rest

get_begun : (as_ : List ActorState) (o : Option ActorState) → slice_get (with_begun as_ o) (length as_) ≡ o
get_begun [] None = refl
get_begun [] (Some a) = refl
get_begun (x ∷ xs) None = get_begun xs None
get_begun (x ∷ xs) (Some a) = get_begun xs (Some a)

pub step_begun : (cs : List CallChain) (as_ : List ActorState) (o : Option ActorState) → length cs ≡ length as_ → length (with_chain cs o) ≡ length (with_begun as_ o)
step_begun cs as_ None e = e
step_begun cs as_ (Some a) e = length-append cs _ ∙ (ap (λ n. n + 1) e ∙ sym (length-append as_ (a ∷ [])))

get_before : (as_ : List ActorState) (o : Option ActorState) (k : ℕ) (x : ActorState) → slice_get as_ k ≡ Some x → slice_get (with_begun as_ o) k ≡ Some x
get_before [] None k x there = there
get_before [] (Some a) k x there = absurd cc
get_before (y ∷ ys) None k x there = there
get_before (y ∷ ys) (Some a) zero x there = there
get_before (y ∷ ys) (Some a) (suc k) x there = get_before ys (Some a) k x there

-- the actors after a turn: the one that took it, and the one that the event began, which stands
-- last
record HasBegun (w : WorldState) (e : Event) (index : ℕ) (a : ActorState) (new : WorldState) : Type 0 where
  put : List ActorState
  count : length put ≡ length w.actors
  took : slice_get put index ≡ Some (takes w.image a e)
  are : new.actors ≡ with_begun put (actor_begun w.image a e)

turn_begins : (w : WorldState) (name : List ℕ) (index : ℕ) (a : ActorState) (e : Event) (new : WorldState) → IsFirstNamed w.actors name index a → at_rest w a ≡ a → IsTurn w name e new → HasBegun w e index a new
turn_begins w name index a e new found calm turn =
    let t = turn_from w name e new turn in
    let i = w.image in
    let same_one : t.actor ≡ a = one_of (sym t.named ∙ found.named) in
    let b = ready w.actors t.actor in
    let r = rest i t.parts.actor in
    let is : r ≡ a = ap (rest i) t.is ∙ (ap (at_rest w) same_one ∙ calm) in
    let x = takes i r e in
    let own : x.name ≡ name = takes_name i r e ∙ (ap (λ (y : ActorState). y.name) is ∙ found_name w.actors name a found.named) in
    let was : b.name ≡ name = ready_name w.actors t.actor ∙ found_name w.actors name t.actor t.named in
    record {
      put = put_actor w.actors x;
      count = ap length (found.put x own) ∙ set_length w.actors index x;
      took = ap (λ (as_ : List ActorState). slice_get as_ index) (found.put x own) ∙ (set_get w.actors index x found.inside ∙ ap (λ y. Some (takes i y e)) is);
      are = ap (λ (v : WorldState). v.actors) t.parts.new_is ∙ (ap (λ as_. with_begun as_ (actor_begun i r e)) (put_put w.actors b x (own ∙ sym was)) ∙ ap (λ y. with_begun (put_actor w.actors x) (actor_begun i y e)) is);
    }

begun_length : (as_ : List ActorState) (o : Option ActorState) → length as_ ≤ length (with_begun as_ o)
begun_length as_ None = omega arith
begun_length as_ (Some a) = (let more = length-append as_ (a ∷ []) in omega (arith, more))

-- no actor is lost by a turn
pub turn_keeps : (w : WorldState) (name : List ℕ) (index : ℕ) (a : ActorState) (e : Event) (new : WorldState) → IsFirstNamed w.actors name index a → at_rest w a ≡ a → IsTurn w name e new → length w.actors ≤ length new.actors
turn_keeps w name index a e new found calm turn =
    let h = turn_begins w name index a e new found calm turn in
    let more = begun_length h.put (actor_begun w.image a e) in
    let count = h.count in
    let are = ap length h.are in
    omega (arith, more, count, are)

pub event_logged : (p : Progress) (name : List ℕ) (index : ℕ) (a : ActorState) (q : Progress) (l m : Log) → IsFirstNamed p.state.actors name index a → at_rest p.state a ≡ a → IsInStep p l → (t : TookTurnOf p name q)
    → IsEventNoted p.state.image t.event q.state.actors index (doer_of a) l m → IsEventLogged p l name index q m
event_logged p name index a q l m found calm in_step t n =
    let w = p.state in
    let h = turn_begins w name index a t.event q.state found calm t.turn in
    let o = actor_begun w.image a t.event in
    let begun : slice_get q.state.actors (length l.chains) ≡ o =
    ap (slice_get q.state.actors) in_step ∙ (ap (λ (as_ : List ActorState). slice_get as_ (length w.actors)) h.are ∙ (ap (slice_get (with_begun h.put o)) (sym h.count) ∙ get_begun h.put o)) in
    let took : slice_get q.state.actors index ≡ Some (takes w.image a t.event) = ap (λ (as_ : List ActorState). slice_get as_ index) h.are ∙ get_before h.put o index (takes w.image a t.event) h.took in
    let labels : n.actor.labels ≡ (takes w.image a t.event).labels = ap (λ (y : ActorState). y.labels) (one_of (sym n.there ∙ took)) in
    let logged : m ≡ log_noted w.image t.event o (doer_of a) (takes w.image a t.event).labels n.chain l =
    n.logged ∙ (ap (λ x. log_noted w.image t.event x (doer_of a) n.actor.labels n.chain l) begun ∙ ap (λ x. log_noted w.image t.event o (doer_of a) x n.chain l) labels) in
    let chains : m.chains ≡ with_chain l.chains o = ap (λ (x : Log). x.chains) logged in
    record {
      event = t.event;
      turn = t.turn;
      noted = t.noted;
      actor = a;
      found = found;
      logged = logged ∙ sym (ap (log_event_by w.image l a t.event) n.at);
      in_step = ap length chains ∙ (step_begun l.chains h.put o (in_step ∙ sym h.count) ∙ sym (ap length h.are));
    }

-- ---- the whole turn

-- where the actor of a name has come to rest, the next part of its turn may be taken
pub record MayAdvance (p : Progress) (name : List ℕ) (index : ℕ) (l : Log) : Type 0 where
  pub there : IsIndexOf p.state.actors name index
  pub rests : RestsAlready p.state name
  pub in_step : IsInStep p l

log_rest_length : (i : Image) (l : Log) (k : ℕ) (a : ActorState) → length (log_rest i l k a).chains ≡ length l.chains
log_rest_length i l k a = by_chain (slice_get l.chains k)
  where
    by_chain : (o : Option CallChain) → length (log_rest_by i l k a o).chains ≡ length l.chains
    by_chain None = refl
    by_chain (Some c) = set_length l.chains k (noted_rest i l.makings a (record { chain = c; notes = l.notes })).chain

rested_length : (w : WorldState) (name : List ℕ) (index : ℕ) (a : ActorState) → IsFirstNamed w.actors name index a → length (rested w name).actors ≡ length w.actors
rested_length w name index a found = sym (ap (λ (v : WorldState). length v.actors) (rested_put w name index a found)) ∙ set_length w.actors index (at_rest w a)

pub may_advance : (p : Progress) (name : List ℕ) (index : ℕ) (l m : Log) (q : Progress) → IsInStep p l → ComesToRest p name index l q m → MayAdvance q name index m
may_advance p name index l m q in_step r =
    let w = p.state in
    let v : Progress = record p { state = rested w name } in
    let here = rested_found w name index r.actor r.found in
    subst (λ x. MayAdvance x name index m) (sym r.new_is) (record {
      there = (at_rest w r.actor, here);
      rests = λ x named. rests_already w name r.actor r.found.named r.awake x named;
      in_step = ap (λ (x : Log). length x.chains) r.logged ∙ (log_rest_length w.image l index (ready w.actors r.actor) ∙ (in_step ∙ sym (rested_length w name index r.actor r.found)));
    })

pub whole_turn : (p : Progress) (name : List ℕ) (index : ℕ) (l m k : Log) (q new : Progress) → ComesToRest p name index l q m → new.stopped ≡ false → IsEventLogged q m name index new k
    → TookLogged p l name new k
unfolding log_turn
whole_turn p name index l m k q new r going h0 =
    let w = p.state in
    let i = w.image in
    let a = r.actor in
    let v : Progress = record p { state = rested w name } in
    let h : IsEventLogged v m name index new k = subst (λ x. IsEventLogged x m name index new k) r.new_is h0 in
    let here = rested_found w name index a r.found in
    let is : h.actor ≡ at_rest w a = one_of (sym h.found.there ∙ here.there) in
    let at = index_fixed w.actors name index a r.found in (
      h.event,
      record {
        turn = sym (rested_turn w name a r.found.named r.awake) ∙ h.turn;
        noted = h.noted;
        going = going;
        logged = h.logged ∙ (ap (λ x. log_event i m index x h.event) is ∙ (ap (λ x. log_event i x index (at_rest w a) h.event) r.logged
            ∙ (sym (ap (λ o. log_turn_at w l (Some index) o h.event) r.found.named) ∙ sym (ap (λ o. log_turn_at w l o (actor_named w.actors name) h.event) at))));
        in_step = h.in_step;
      },
    )

-- where the actor waits, or finds a gate busy, the world is at rest, and the log has its notes
pub waits_whole : (p : Progress) (name : List ℕ) (index : ℕ) (l m k : Log) (q new : Progress) → ComesToRest p name index l q m → IsWaiting q.state name × (new ≡ record q { state = rested q.state name }) × (k ≡ m)
    → IsWaiting p.state name × (new ≡ record p { state = rested p.state name }) × (k ≡ log_rested p.state l name)
waits_whole p name index l m k q new r h0 =
    let w = p.state in
    let v : Progress = record p { state = rested w name } in
    let h : IsWaiting v.state name × (new ≡ record v { state = rested v.state name }) × (k ≡ m) = subst (λ (x : Progress). IsWaiting x.state name × (new ≡ record x { state = rested x.state name }) × (k ≡ m)) r.new_is h0 in
    (rested_waits w name r.actor r.found.named r.awake h.0, h.1 ∙ ap (λ s. record p { state = s }) (rested_twice w name r.actor r.found.named r.awake), h.2 ∙ (r.logged ∙ sym (rested_log w name index r.actor l r.found)))

pub busy_whole : (p : Progress) (name : List ℕ) (index : ℕ) (l m k : Log) (q new : Progress) → ComesToRest p name index l q m → IsBusy q.state name × (new ≡ record q { state = rested q.state name }) × (k ≡ m)
    → IsBusy p.state name × (new ≡ record p { state = rested p.state name }) × (k ≡ log_rested p.state l name)
busy_whole p name index l m k q new r h0 =
    let w = p.state in
    let v : Progress = record p { state = rested w name } in
    let h : IsBusy v.state name × (new ≡ record v { state = rested v.state name }) × (k ≡ m) = subst (λ (x : Progress). IsBusy x.state name × (new ≡ record x { state = rested x.state name }) × (k ≡ m)) r.new_is h0 in
    (rested_busy w name r.actor r.found.named r.awake h.0, h.1 ∙ ap (λ s. record p { state = s }) (rested_twice w name r.actor r.found.named r.awake), h.2 ∙ (r.logged ∙ sym (rested_log w name index r.actor l r.found)))

-- and it has not ended
pub ended_not : {A : Type 0} (p : Progress) (name : List ℕ) (index : ℕ) (l m : Log) (q : Progress) → ComesToRest p name index l q m → (HasEnded p.state.actors name → ⊥) → HasEnded q.state.actors name → A
ended_not p name index l m q r lives h =
    let w = p.state in
    absurd (rested_lives w name r.actor r.found.named (lives_there w.actors name r.actor r.found.named lives) (ap_ended r.new_is h))
  where
    ap_ended : q ≡ record p { state = rested p.state name } → HasEnded q.state.actors name → HasEnded (rested p.state name).actors name
    ap_ended e x = subst (λ (y : Progress). HasEnded y.state.actors name) e x
