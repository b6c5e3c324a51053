-- How a request is checked: what the checks of one that lacks a grant, and of one that lacks none, come to.
use Rattle.std.proofs.Common.{◌≡◌, ◌↔◌, ℕ, zero, suc, Bool, true, false, List, [], ◌∷◌, refl, sym, ap, subst, ◌∙◌}
use Rattle.std.specs.Prelude.{Option, Some, None, is_none, not, ◌&&◌, slice_get, slice_set}
use Rattle.wedge_events.specs.Slots.{Segment, slot_after}
use Rattle.wedge_events.specs.Streams.{Stream, stream_after}
use Rattle.wedge_base.specs.declared.rights.Denial.{Denial}
use Rattle.wedge_events.specs.declared.events.Event.{Event}
use Rattle.wedge_events.specs.declared.events.Event.TheVariants as event
use Rattle.wedge_events.specs.declared.cells.Live.{Live}
use Rattle.wedge_events.specs.declared.cells.SlotAsk.{SlotAsk}
use Rattle.wedge_events.specs.declared.cells.SlotReply.{SlotReply}
use Rattle.wedge_events.specs.declared.cells.StreamAsk.{StreamAsk}
use Rattle.wedge_events.specs.declared.cells.StreamReply.{StreamReply}
use Rattle.machine.specs.Actors.{ActorState, right_of}
use Rattle.machine.specs.Take.{takes}
use Rattle.machine.specs.Cells.{Cells, held, slot_in, stream_in}
use Rattle.machine.specs.Worlds.{WorldState, actor_named, put_actor, apply_event, with_actor}
use Rattle.run_laws.specs.Requests.{Request}
use Rattle.run_laws.specs.Allowed.{lacks, is_refused, IsDone, denied}
use Rattle.run_laws.specs.Moments.{NothingDenied, IsChecked}
use Rattle.run_laws.specs.Refusals.{refused}
use Rattle.run_laws.proofs.Named.{put_put, named_put, same_noted}

-- putting what a place holds there changes nothing
pub set_held : {X : Type 0} (xs : List (Option X)) (n : ℕ) (x : Option X) → held (slice_get xs n) ≡ x → slice_set xs n x ≡ xs
set_held [] n x e = refl
set_held (y ∷ ys) zero x e = ap (λ z. z ∷ ys) (sym e)
set_held (y ∷ ys) (suc n) x e = ap (λ zs. y ∷ zs) (set_held ys n x e)

-- no denial, where the actor of the name keeps its own
pub kept : (w : WorldState) (cells : Cells) (b x : ActorState) → x.name ≡ b.name → x.denials ≡ b.denials → NothingDenied (with_actor w b) (record w { cells = cells; actors = put_actor w.actors x })
kept w cells b x n d name = same_noted w.actors b x name n d

-- the actor that was put is there
pub put_there : (w : WorldState) (b x a : ActorState) → actor_named w.actors b.name ≡ Some a → x.name ≡ b.name → actor_named (put_actor w.actors x) b.name ≡ Some x
put_there w b x a named n =
    subst (λ m. actor_named (put_actor w.actors x) m ≡ Some x) n (named_put w.actors x a (subst (λ m. actor_named w.actors m ≡ Some a) (sym n) named))

-- what checks a request that lacks a grant, and one that lacks none
pub checked_denied : (old : WorldState) (a : ActorState) (r : Request) (e : Option Event) (new : WorldState) (d : Denial) → lacks a r ≡ Some d → (IsDone a r e (actor_named new.actors a.name) → ⊥) → new ≡ with_actor old (denied a r d) → IsChecked old a r e new
checked_denied old a r e new d lack undone is = record {
  done = (λ h. absurd (undone h), λ h. let f : false ≡ true = ap (λ (l : Option Denial). is_none l && not (is_refused a r)) (sym lack) ∙ h in absurd cc);
  denied = λ x y. let same : d ≡ x = let f : Some d ≡ Some x = sym lack ∙ y in cc in subst (λ z. new ≡ with_actor old (denied a r z)) same is;
  allowed = λ y. let f : Some d ≡ None = sym lack ∙ y in absurd cc;
  refused = λ y z. let f : Some d ≡ None = sym lack ∙ y in absurd cc;
}

pub checked_allowed : (old : WorldState) (a : ActorState) (r : Request) (e : Option Event) (new : WorldState) (t : Bool) → lacks a r ≡ None → is_refused a r ≡ t → (IsDone a r e (actor_named new.actors a.name) ↔ (not t ≡ true)) → NothingDenied old new → (t ≡ true → new.cells ≡ old.cells) → IsChecked old a r e new
checked_allowed old a r e new t lack refused done none stay =
    let is : (is_none (lacks a r) && not (is_refused a r)) ≡ not t = ap (λ (l : Option Denial). is_none l && not (is_refused a r)) lack ∙ ap not refused in
    record {
      done = (λ h. is ∙ done.0 h, λ h. done.1 (sym is ∙ h));
      denied = λ x y. let f : None ≡ Some x = sym lack ∙ y in absurd cc;
      allowed = λ y. none;
      refused = λ y z. stay (sym refused ∙ z);
    }

-- the world after an event
abbrev pub after : WorldState → ActorState → Event → WorldState
after w b e = (apply_event w b e).world

-- one that leaves the cells as they are
pub stayed : (w : WorldState) (b x : ActorState) (cells : Cells) → cells ≡ w.cells → x.name ≡ b.name → record w { cells = cells; actors = put_actor w.actors x } ≡ with_actor (with_actor w b) x
stayed w b x cells same n = ap (λ (c : Cells). record w { cells = c; actors = put_actor w.actors x }) same ∙ ap (λ (as_ : List ActorState). record w { actors = as_ }) (sym (put_put w.actors b x n))

pub same_slots : (w : WorldState) (slot : ℕ) (g : Option Segment) → slot_in w.cells slot ≡ g → record w.cells { slots = slice_set w.cells.slots slot g } ≡ w.cells
same_slots w slot g there = ap (λ (gs : List (Option Segment)). record w.cells { slots = gs }) (set_held w.cells.slots slot g there)

pub same_streams : (w : WorldState) (fd : ℕ) (s : Option Stream) → stream_in w.cells fd ≡ s → record w.cells { streams = slice_set w.cells.streams fd s } ≡ w.cells
same_streams w fd s there = ap (λ (ss : List (Option Stream)). record w.cells { streams = ss }) (set_held w.cells.streams fd s there)

abbrev pub pair_on : ActorState → Segment → Option Live
pair_on b g = Some (record { tag = g.tag; right = right_of b g.tag })

-- the world after an event on a slot where g lives, and on a stream
abbrev pub slot_cells : WorldState → ℕ → Option Segment → SlotAsk → SlotReply → Cells
slot_cells w slot g q r = record w.cells { slots = slice_set w.cells.slots slot (slot_after g q r) }

abbrev pub slot_world : WorldState → ActorState → ℕ → Option Segment → SlotAsk → SlotReply → WorldState
slot_world w b slot g q r = record w { cells = record w.cells { slots = slice_set w.cells.slots slot (slot_after g q r) }; actors = put_actor w.actors (takes w.image b (event.Slot slot q r)) }

abbrev pub stream_world : WorldState → ActorState → ℕ → Option Stream → StreamAsk → StreamReply → WorldState
stream_world w b fd s q r = record w { cells = record w.cells { streams = slice_set w.cells.streams fd (stream_after s q r) }; actors = put_actor w.actors (takes w.image b (event.Fd fd q r)) }
