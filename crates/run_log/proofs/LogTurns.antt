-- What a turn makes of a log: the notes of its actor up to its event, and the note of that.
use Rattle.std.proofs.Common.{◌≡◌, ℕ, zero, suc, ◌<◌, List, [], ◌∷◌, length, refl, sym, ap, subst, ◌∙◌, arith}
use Rattle.std.specs.Prelude.{Option, Some, None, IfSome, IfNone, slice_get, slice_set}
use Rattle.wedge_events.specs.declared.events.Event.{Event}
use Rattle.machine.specs.Actors.{ActorState}
use Rattle.machine.specs.Local.{rest}
use Rattle.machine.specs.Take.{takes, actor_begun}
use Rattle.machine.specs.Worlds.{WorldState, actor_named, put_actor, with_begun, ready}
use Rattle.machine.proofs.Resting.{rest-name}
use Rattle.run_laws.proofs.Between.{takes_name}
use Rattle.run_laws.proofs.Named.{found_name, put_put}
use Rattle.run_laws.proofs.Turns.{ready_name, Turned}
use Rattle.run_notes.specs.Notes.{Noted, noted_rest}
use Rattle.run_notes.specs.declared.chain.CallChain.{CallChain}
use Rattle.run_log.specs.Logs.{Log}
use Rattle.run_log.specs.Logging.{log_rest_by, log_event, log_event_by, with_noted, with_chain, log_turn_at, log_turn}
use Rattle.run_log.proofs.LoggedTurns.{step_begun}
use Rattle.world_turns.specs.Indices.{index_in}
use Rattle.world_turns.specs.Progress.{IsFirstNamed, IsIndexOf}
use Rattle.world_turns.proofs.Indexing.{index_found, index_none}
use Rattle.world_turns.proofs.Turning.{set_get, set_length}

one_of : {X : Type 0} {x y : X} → Some x ≡ Some y → x ≡ y
one_of e = cc

record FoundAt (actors : List ActorState) (name : List ℕ) (a : ActorState) : Type 0 where
  index : ℕ
  at : index_in actors name ≡ Some index
  found : IsFirstNamed actors name index a

found_at : (actors : List ActorState) (name : List ℕ) (a : ActorState) → actor_named actors name ≡ Some a → FoundAt actors name a
found_at actors name a named = by_index (index_in actors name) refl (index_found actors name) (index_none actors name)
  where
    by_index : (o : Option ℕ) → index_in actors name ≡ o → IfSome o (IsIndexOf actors name) → IfNone o (actor_named actors name ≡ None) → FoundAt actors name a
    by_index None at found none = let f : Some a ≡ None = sym named ∙ none in absurd cc
    by_index (Some k) at found none = record {
      index = k;
      at = at;
      found = subst (IsFirstNamed actors name k) (one_of (sym found.1.named ∙ named)) found.1;
    }

get_some : {X : Type 0} (xs : List X) (k : ℕ) → k < length xs → (x : X) × (slice_get xs k ≡ Some x)
get_some [] k lt = absurd (omega (arith, lt))
get_some (x ∷ xs) zero lt = (x, refl)
get_some (x ∷ xs) (suc k) lt = get_some xs k (omega (arith, lt))

-- the actor of the turn as it comes to its event
abbrev pub at_event : (w : WorldState) (name : List ℕ) (e : Event) (new : WorldState) → Turned w name e new → ActorState
at_event w name e new t = rest w.image (ready w.actors t.actor)

-- its chain and all notes then
abbrev pub noted_there : (w : WorldState) (l : Log) (name : List ℕ) (e : Event) (new : WorldState) → Turned w name e new → CallChain → Noted
noted_there w l name e new t c = noted_rest w.image l.makings (ready w.actors t.actor) (record { chain = c; notes = l.notes })

-- its index and its chain; the actors after the turn, and the log
pub record LogsTurn (w : WorldState) (l : Log) (name : List ℕ) (e : Event) (new : WorldState) (t : Turned w name e new) : Type 0 where
  pub index : ℕ
  pub indexed : index_in w.actors name ≡ Some index
  pub found : IsFirstNamed w.actors name index t.actor
  pub chain : CallChain
  pub at : slice_get l.chains index ≡ Some chain
  pub image : new.image ≡ w.image
  pub actors : new.actors ≡ with_begun (slice_set w.actors index (takes w.image (at_event w name e new t) e)) (actor_begun w.image (at_event w name e new t) e)
  pub is : log_turn w l name e ≡ log_event_by w.image (with_noted l index (noted_there w l name e new t chain)) (at_event w name e new t) e (Some (noted_there w l name e new t chain).chain)
  pub aligned : length (with_chain (slice_set l.chains index (noted_there w l name e new t chain).chain) (actor_begun w.image (at_event w name e new t) e)) ≡ length new.actors

pub logs_turn : (w : WorldState) (l : Log) (name : List ℕ) (e : Event) (new : WorldState) (t : Turned w name e new) → length l.chains ≡ length w.actors → LogsTurn w l name e new t
unfolding log_turn
logs_turn w l name e new t was =
    let i = w.image in
    let a = t.actor in
    let b = ready w.actors a in
    let r = rest i b in
    let x = takes i r e in
    let o = actor_begun i r e in
    let f = found_at w.actors name a t.named in
    let k = f.index in
    let own : x.name ≡ name = takes_name i r e ∙ (rest-name i b ∙ (ready_name w.actors a ∙ found_name w.actors name a t.named)) in
    let own_b : b.name ≡ name = ready_name w.actors a ∙ found_name w.actors name a t.named in
    let actors : new.actors ≡ with_begun (slice_set w.actors k x) o =
    ap (λ (v : WorldState). v.actors) t.parts.new_is
    ∙ (ap (λ y. with_begun (put_actor (put_actor w.actors b) (takes i (rest i y) e)) (actor_begun i (rest i y) e)) t.is
    ∙ (ap (λ as_. with_begun as_ o) (put_put w.actors b x (own ∙ sym own_b))
    ∙ ap (λ as_. with_begun as_ o) (f.found.put x own))) in
    let inside : k < length l.chains = subst (λ n. k < n) (sym was) f.found.inside in
    let chain = get_some l.chains k inside in
    let n = noted_rest i l.makings b (record { chain = chain.0; notes = l.notes }) in
    let rested : Log = with_noted l k n in
    let same_length : length (slice_set l.chains k n.chain) ≡ length (slice_set w.actors k x) = set_length l.chains k n.chain ∙ (was ∙ sym (set_length w.actors k x)) in
    record {
      index = k;
      indexed = f.at;
      found = f.found;
      chain = chain.0;
      at = chain.1;
      image = ap (λ (v : WorldState). v.image) t.parts.new_is;
      actors = actors;
      is =
          ap (λ q. log_turn_at w l q (actor_named w.actors name) e) f.at
          ∙ (ap (λ q. log_turn_at w l (Some k) q e) t.named
          ∙ (ap (λ q. log_event i (log_rest_by i l k b q) k r e) chain.1
          ∙ ap (log_event_by i rested r e) (set_get l.chains k n.chain inside)));
      aligned = step_begun (slice_set l.chains k n.chain) (slice_set w.actors k x) o same_length ∙ sym (ap length actors);
    }
