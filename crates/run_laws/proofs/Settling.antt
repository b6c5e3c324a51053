-- Worlds that differ in local events alone: they take the same turns, and such turns lead to worlds that again differ
-- in local events alone; and what every actor of a run is in as it rests.
use Rattle.std.proofs.Common.{◌≡◌, ℕ, zero, suc, ◌+◌, ◌-◌, ◌≤◌, Bool, true, false, List, [], ◌∷◌, length, refl, sym, ap, subst, ◌∙◌, arith, true≢false, inl, inr}
use Rattle.std.proofs.lemmas.List.{map-append, length-append}
use Rattle.std.specs.Prelude.{◌++◌, map, replicate, slice_set, Option, Some, None, option_map, if◌then◌else◌, ◌⊎◌}
use Rattle.cow_pages.specs.PrivateMemory.{PrivateMemory}
use Rattle.wedge_events.specs.declared.cells.GateReply.TheVariants as gate_reply
use Rattle.wedge_events.specs.declared.cells.GateAsk.TheVariants as gate_ask
use Rattle.wedge_base.specs.Names.{same, root_name}
use Rattle.wedge_base.specs.Images.{Image, slots as most_slots}
use Rattle.wedge_events.specs.Slots.{Segment, declared_slots, slot_after}
use Rattle.wedge_events.specs.Streams.{Stream, stream_after, declared_stream, most_fds}
use Rattle.wedge_base.specs.declared.image.FdEntry.{FdEntry}
use Rattle.wedge_base.specs.declared.image.TagEntry.{TagEntry}
use Rattle.wedge_events.specs.declared.events.Want.{Want}
use Rattle.wedge_events.specs.declared.events.Want.TheVariants as want
use Rattle.wedge_events.specs.declared.events.Event.{Event}
use Rattle.wedge_events.specs.declared.events.Event.TheVariants as event
use Rattle.wedge_events.specs.declared.events.Turn.{Turn}
use Rattle.wedge_base.specs.declared.outcome.ActorLine.{ActorLine}
use Rattle.machine.specs.declared.phase.Phase.{Phase}
use Rattle.machine.specs.declared.phase.Phase.TheVariants as phase
use Rattle.machine.specs.Actors.{ActorState, root}
use Rattle.machine.specs.Local.{rest, is_running, has_ended, end_reached}
use Rattle.machine.specs.Children.{child_name}
use Rattle.machine.specs.Take.{current_want, wanted_at, takes, child_of, run_by, run_at, actor_begun, asks}
use Rattle.machine.specs.Between.{GivesBelow}
use Rattle.machine.specs.Cells.{Cells, nothings, slot_in, stream_in, cells_after, event_of, live_at}
use Rattle.machine.specs.Worlds.{WorldState, initial_state, actor_named, put_actor, with_begun, event_at, gate_event, apply_event, wanting, turn_with, turn_of, ended_with, resumes, ready_at, ready, resumed, at_rest, Runs, is_ended, is_complete, all_at_rest}
use Rattle.machine.specs.Outcomes.{with_actor_line, lines_of, labels_of, streams_of, outcome_of}
use Rattle.machine.proofs.Resting.{rest-name, rest-ended, rest-labels, rest-stays, rest-uncalm, rest_rest, ended-stays}
use Rattle.run_laws.proofs.Turns.{back, RunEnded, Readies, Stays, Back, readies, ready_is, ready_name, ready_ended, ready_end, ready_else, waits_or, Turned, turn_from}
use Rattle.run_laws.proofs.Between.{takes_name}
use Rattle.run_laws.proofs.Named.{found_name, named_begun, named_put_other, put_put, same_equal, named_put}
use Rattle.run_laws.proofs.DraftsFit.{AreFew, rest_few, takes_few}
use Rattle.run_laws.proofs.Happening.{Happens, happens, takes_reads}
use Rattle.run_laws.proofs.Directing.{next_sound}
use Rattle.run_laws.proofs.Meeting.{slots_in, fds_in, ReadsAs, rest_reads}
use Rattle.wedge_base.specs.declared.rights.End.{End}

-- ---- actors by name, each at rest
if_map : {X : Type 0} (f : X → X) (a : X) (o : Option X) (t : Bool) → (if t then Some (f a) else option_map f o) ≡ option_map f (if t then Some a else o)
if_map f a o true = refl
if_map f a o false = refl

-- what keeps names maps those of all
map_named : (f : ActorState → ActorState) → ((a : ActorState) → (f a).name ≡ a.name) → (actors : List ActorState) (name : List ℕ) → actor_named (map f actors) name ≡ option_map f (actor_named actors name)
map_named f keeps [] name = refl
map_named f keeps (a ∷ as_) name =
    ap (λ (n : List ℕ). if same n name then Some (f a) else actor_named (map f as_) name) (keeps a)
    ∙ ap (λ o. if same a.name name then Some (f a) else o) (map_named f keeps as_ name)
    ∙ if_map f a (actor_named as_ name) (same a.name name)

pub at_rest-name : (w : WorldState) (a : ActorState) → (at_rest w a).name ≡ a.name
at_rest-name w a = rest-name w.image (ready w.actors a) ∙ ready_name w.actors a

pub at_rest-ended : (w : WorldState) (a : ActorState) → has_ended (at_rest w a).phase ≡ has_ended a.phase
at_rest-ended w a = rest-ended w.image (ready w.actors a) ∙ ready_ended w.actors a

pub at_rest-labels : (w : WorldState) (a : ActorState) → (at_rest w a).labels ≡ a.labels
at_rest-labels w a = rest-labels w.image (ready w.actors a) ∙ ready_is (λ x. x.labels ≡ a.labels) w.actors a refl (λ k e fuel. refl)

-- an actor that has ended stays as it is
pub at_rest-stays : (w : WorldState) (a : ActorState) → has_ended a.phase ≡ true → at_rest w a ≡ a
at_rest-stays w a e =
    ap (rest w.image) (ready_else w.actors a (λ k at. true≢false (sym e ∙ ap has_ended at))) ∙ ended-stays w.image a e

pub settled_named : (w : WorldState) (name : List ℕ) → actor_named (all_at_rest w).actors name ≡ option_map (at_rest w) (actor_named w.actors name)
settled_named w name = map_named (at_rest w) (at_rest-name w) w.actors name

record IsImage {X : Type 0} (f : X → X) (o : Option X) (y : X) : Type 0 where
  from : X
  there : o ≡ Some from
  is : f from ≡ y

image_of : {X : Type 0} (f : X → X) (o : Option X) (y : X) → option_map f o ≡ Some y → IsImage f o y
image_of f None y e = absurd cc
image_of f (Some x) y e = record { from = x; there = refl; is = cc }

-- the actor of a name in one of two worlds that are equal settled rests as that in the other
rests_alike : (v w : WorldState) (name : List ℕ) (a : ActorState) → all_at_rest v ≡ all_at_rest w → actor_named v.actors name ≡ Some a
    → IsImage (at_rest w) (actor_named w.actors name) (at_rest v a)
rests_alike v w name a alike named = image_of (at_rest w) (actor_named w.actors name) (at_rest v a)
    (sym (settled_named w name) ∙ ap (λ (x : WorldState). actor_named x.actors name) (sym alike) ∙ settled_named v name ∙ ap (option_map (at_rest v)) named)

-- ---- who has ended, and how
not_reached : (p : Phase) → has_ended p ≡ false → end_reached p ≡ None
not_reached phase.Running e = refl
not_reached (phase.Within q) e = refl
not_reached (phase.Starting pre) e = refl
not_reached (phase.MakingGate pre) e = refl
not_reached (phase.Opening slot tag) e = refl
not_reached (phase.Releasing slot) e = refl
not_reached (phase.OpeningFile o) e = refl
not_reached (phase.Entering entrance) e = refl
not_reached (phase.Waiting number) e = refl
not_reached (phase.Ending x) e = refl
not_reached (phase.Ended x) e = absurd cc

pub none_ended : (a : ActorState) → has_ended a.phase ≡ false → ended_with (Some a) ≡ None
none_ended a e = ap (option_map (λ x. (x, a.fuel))) (not_reached a.phase e)

pub ended_at_rest : (w : WorldState) (a : ActorState) → ended_with (Some (at_rest w a)) ≡ ended_with (Some a)
ended_at_rest w a = by_end (has_ended a.phase) refl
  where
    by_end : (t : Bool) → has_ended a.phase ≡ t → ended_with (Some (at_rest w a)) ≡ ended_with (Some a)
    by_end true e = ap (λ x. ended_with (Some x)) (at_rest-stays w a e)
    by_end false e = none_ended (at_rest w a) (at_rest-ended w a ∙ e) ∙ sym (none_ended a e)

some_at_rest : (w : WorldState) (o : Option ActorState) → ended_with (option_map (at_rest w) o) ≡ ended_with o
some_at_rest w None = refl
some_at_rest w (Some a) = ended_at_rest w a

-- in two lists the actor of each name has ended alike
abbrev pub EndAlike : List ActorState → List ActorState → Type 0
EndAlike as_ bs = (name : List ℕ) → ended_with (actor_named as_ name) ≡ ended_with (actor_named bs name)

ready_alike : (as_ bs : List ActorState) → EndAlike as_ bs → (a : ActorState) → ready as_ a ≡ ready bs a
ready_alike as_ bs h a = by_phase (waits_or a.phase)
  where
    by_phase : ((k : ℕ) × (a.phase ≡ phase.Waiting k)) ⊎ ((k : ℕ) → a.phase ≡ phase.Waiting k → ⊥) → ready as_ a ≡ ready bs a
    by_phase (inl (k, at)) = ap (ready_at as_ a) at ∙ (ap (resumes a k) (h (child_name a.name k)) ∙ sym (ap (ready_at bs a) at))
    by_phase (inr none) = ready_else as_ a none ∙ sym (ready_else bs a none)

-- one after another: who has ended has done so in the second too
abbrev EndsFirst : List ActorState → List ActorState → Type 0
EndsFirst as_ bs = (name : List ℕ) (x : End × ℕ) → ended_with (actor_named as_ name) ≡ Some x → ended_with (actor_named bs name) ≡ Some x

ended_as : (actors : List ActorState) (a : ActorState) (k : ℕ) (r : RunEnded actors a k) → ended_with (actor_named actors (child_name a.name k)) ≡ Some (r.how, r.run.fuel)
ended_as actors a k r = ap ended_with r.there ∙ ap (option_map (λ x. (x, r.run.fuel))) r.ended

-- going on and coming to rest twice is doing so once
rested_then : (i : Image) (as_ bs : List ActorState) (a : ActorState) → EndsFirst as_ bs → rest i (ready bs (rest i (ready as_ a))) ≡ rest i (ready bs a)
rested_then i as_ bs a first = by_case (readies as_ a)
  where
    -- one that does not wait rests, and goes on as it is
    calm : (x : ActorState) → ((k : ℕ) → x.phase ≡ phase.Waiting k → ⊥) → rest i (ready bs (rest i x)) ≡ rest i x
    calm x none = ap (rest i) (ready_else bs (rest i x) (λ k is. none k (rest-uncalm i x (phase.Waiting k) (λ h. h) is))) ∙ rest_rest i x

    stays_so : ready as_ a ≡ a → ((k : ℕ) × (a.phase ≡ phase.Waiting k)) ⊎ ((k : ℕ) → a.phase ≡ phase.Waiting k → ⊥) → rest i (ready bs (rest i (ready as_ a))) ≡ rest i (ready bs a)
    stays_so is (inl (k, at)) = ap (λ x. rest i (ready bs x)) (ap (rest i) is ∙ rest-stays i a (ap is_running at))
    stays_so is (inr none) = ap (λ x. rest i (ready bs (rest i x))) is ∙ (calm a none ∙ ap (rest i) (sym (ready_else bs a none)))

    by_case : Readies as_ a → rest i (ready bs (rest i (ready as_ a))) ≡ rest i (ready bs a)
    by_case (Stays is) = stays_so is (waits_or a.phase)
    by_case (Back k at r is) =
        let one = ap (ready_at as_ a) at ∙ ap (resumes a k) (ended_as as_ a k r) in
        let other = ap (ready_at bs a) at ∙ ap (resumes a k) (first (child_name a.name k) (r.how, r.run.fuel) (ended_as as_ a k r)) in
        let both : ready as_ a ≡ ready bs a = one ∙ sym other in
        ap (λ x. rest i (ready bs (rest i x))) is
        ∙ (calm (back a k r.how r.run.fuel) (λ j e. let f : phase.Running ≡ phase.Waiting j = e in absurd cc) ∙ (ap (rest i) (sym is) ∙ ap (rest i) both))

-- two lists of actors of the same names, in which each has ended alike
abbrev AreAlike : List ActorState → List ActorState → Type 0
AreAlike [] [] = Unit {0}
AreAlike [] (b ∷ bs) = ⊥
AreAlike (a ∷ as_) [] = ⊥
AreAlike (a ∷ as_) (b ∷ bs) = (a.name ≡ b.name) × (ended_with (Some a) ≡ ended_with (Some b)) × AreAlike as_ bs

alike_ends : (as_ bs : List ActorState) → AreAlike as_ bs → EndAlike as_ bs
alike_ends [] [] h name = refl
alike_ends [] (b ∷ bs) h name = absurd h
alike_ends (a ∷ as_) [] h name = absurd h
alike_ends (a ∷ as_) (b ∷ bs) h name = by_name (same a.name name) (ap (λ n. same n name) (sym h.0)) (alike_ends as_ bs h.2 name)
  where
    by_name : (t : Bool) → same b.name name ≡ t → ended_with (actor_named as_ name) ≡ ended_with (actor_named bs name) → ended_with (if t then Some a else actor_named as_ name) ≡ ended_with (if same b.name name then Some b else actor_named bs name)
    by_name true e others = h.1 ∙ sym (ap (λ t. ended_with (if t then Some b else actor_named bs name)) e)
    by_name false e others = others ∙ sym (ap (λ t. ended_with (if t then Some b else actor_named bs name)) e)

alike_put : (as_ bs : List ActorState) (x : ActorState) → AreAlike as_ bs → AreAlike (put_actor as_ x) (put_actor bs x)
alike_put [] [] x h = (refl, refl, tt)
alike_put [] (b ∷ bs) x h = absurd h
alike_put (a ∷ as_) [] x h = absurd h
alike_put (a ∷ as_) (b ∷ bs) x h = by_name (same a.name x.name) (ap (λ n. same n x.name) (sym h.0)) (alike_put as_ bs x h.2)
  where
    by_name : (t : Bool) → same b.name x.name ≡ t → AreAlike (put_actor as_ x) (put_actor bs x) → AreAlike (if t then x ∷ as_ else a ∷ put_actor as_ x) (if same b.name x.name then x ∷ bs else b ∷ put_actor bs x)
    by_name true e others = subst (λ t. AreAlike (x ∷ as_) (if t then x ∷ bs else b ∷ put_actor bs x)) (sym e) (refl, refl, h.2)
    by_name false e others = subst (λ t. AreAlike (a ∷ put_actor as_ x) (if t then x ∷ bs else b ∷ put_actor bs x)) (sym e) (h.0, h.1, others)

alike_behind : (as_ bs : List ActorState) (c : ActorState) → AreAlike as_ bs → AreAlike (as_ ++ c ∷ []) (bs ++ c ∷ [])
alike_behind [] [] c h = (refl, refl, tt)
alike_behind [] (b ∷ bs) c h = absurd h
alike_behind (a ∷ as_) [] c h = absurd h
alike_behind (a ∷ as_) (b ∷ bs) c h = (h.0, h.1, alike_behind as_ bs c h.2)

alike_begun : (as_ bs : List ActorState) (o : Option ActorState) → AreAlike as_ bs → AreAlike (with_begun as_ o) (with_begun bs o)
alike_begun as_ bs None h = h
alike_begun as_ bs (Some c) h = alike_behind as_ bs c h

alike_settled : (w : WorldState) (actors : List ActorState) → AreAlike actors (map (at_rest w) actors)
alike_settled w [] = tt
alike_settled w (a ∷ as_) = (sym (at_rest-name w a), sym (ended_at_rest w a), alike_settled w as_)

-- ---- the same turns
-- an actor that wants an event has not ended
wants_live : (a : ActorState) (q : Want) → current_want a ≡ Some q → has_ended a.phase ≡ false
wants_live a q wants = by_phase a.phase wants
  where
    by_phase : (p : Phase) → wanted_at a p ≡ Some q → has_ended p ≡ false
    by_phase phase.Running e = refl
    by_phase (phase.Within x) e = refl
    by_phase (phase.Starting pre) e = refl
    by_phase (phase.MakingGate pre) e = refl
    by_phase (phase.Opening slot tag) e = refl
    by_phase (phase.Releasing slot) e = refl
    by_phase (phase.OpeningFile o) e = refl
    by_phase (phase.Entering entrance) e = refl
    by_phase (phase.Waiting number) e = refl
    by_phase (phase.Ending x) e = refl
    by_phase (phase.Ended x) e = absurd cc

-- who has ended before an event of an actor that has not has ended so after it
ends_first : (actors : List ActorState) (a x : ActorState) (o : Option ActorState) → actor_named actors a.name ≡ Some a → x.name ≡ a.name → has_ended a.phase ≡ false → EndsFirst actors (with_begun (put_actor actors x) o)
ends_first actors a x o there name live n z e = by_name (same a.name n) refl
  where
    still : (p : Option ActorState) → actor_named actors n ≡ p → actor_named (put_actor actors x) n ≡ actor_named actors n → ended_with p ≡ Some z → ended_with (actor_named (with_begun (put_actor actors x) o) n) ≡ Some z
    still None found kept f = absurd cc
    still (Some c) found kept f = ap ended_with (named_begun (put_actor actors x) o n c (kept ∙ found)) ∙ f

    by_name : (t : Bool) → same a.name n ≡ t → ended_with (actor_named (with_begun (put_actor actors x) o) n) ≡ Some z
    by_name true s =
        let f : None ≡ Some z = sym (none_ended a live) ∙ (ap ended_with (sym there) ∙ (ap (λ m. ended_with (actor_named actors m)) (same_equal a.name n s) ∙ e)) in
        absurd cc
    by_name false s = still (actor_named actors n) refl (named_put_other actors x n (ap (λ m. same m n) name ∙ s)) e

-- the actors at rest, where those that are put and begun are the same
map_put : (f g h : ActorState → ActorState) → ((a : ActorState) → (h a).name ≡ a.name) → ((a : ActorState) → f a ≡ g (h a)) → (actors : List ActorState) (x : ActorState) → f x ≡ g x → map f (put_actor actors x) ≡ map g (put_actor (map h actors) x)
map_put f g h keeps agree [] x same_x = ap (λ y. y ∷ []) same_x
map_put f g h keeps agree (a ∷ as_) x same_x = by_name (same a.name x.name) (ap (λ n. same n x.name) (keeps a)) (map_put f g h keeps agree as_ x same_x)
  where
    map_all : (as_ : List ActorState) → map f as_ ≡ map g (map h as_)
    map_all [] = refl
    map_all (b ∷ bs) = ap (λ y. y ∷ map f bs) (agree b) ∙ ap (λ ys. g (h b) ∷ ys) (map_all bs)

    by_name : (t : Bool) → same (h a).name x.name ≡ t → map f (put_actor as_ x) ≡ map g (put_actor (map h as_) x) → map f (if t then x ∷ as_ else a ∷ put_actor as_ x) ≡ map g (if same (h a).name x.name then x ∷ map h as_ else h a ∷ put_actor (map h as_) x)
    by_name true e others = ap (λ y. y ∷ map f as_) same_x ∙ (ap (λ ys. g x ∷ ys) (map_all as_) ∙ sym (ap (λ t. map g (if t then x ∷ map h as_ else h a ∷ put_actor (map h as_) x)) e))
    by_name false e others = ap (λ y. y ∷ map f (put_actor as_ x)) (agree a) ∙ (ap (λ ys. g (h a) ∷ ys) others ∙ sym (ap (λ t. map g (if t then x ∷ map h as_ else h a ∷ put_actor (map h as_) x)) e))

map_begun : (f g : ActorState → ActorState) (as_ bs : List ActorState) (o : Option ActorState) → map f as_ ≡ map g bs → ((c : ActorState) → f c ≡ g c) → map f (with_begun as_ o) ≡ map g (with_begun bs o)
map_begun f g as_ bs None h agree = h
map_begun f g as_ bs (Some c) h agree = map-append f as_ (c ∷ []) ∙ (ap (λ ys. ys ++ f c ∷ []) h ∙ (ap (λ y. map g bs ++ y ∷ []) (agree c) ∙ sym (map-append g bs (c ∷ []))))

-- a settled world after an event of an actor at rest
pub settled_after : WorldState → ActorState → Event → WorldState
settled_after x b e = all_at_rest (apply_event x b e).world

-- the actors after the event of one that goes on: that it went on makes no difference to the others
after_resumed : (w : WorldState) (a b : ActorState) (e : Event) → b.name ≡ a.name → (apply_event (resumed w a) b e).world ≡ (apply_event w b e).world
after_resumed w a b e name =
    ap (λ as_. record { image = w.image; cells = cells_after w.cells e; actors = with_begun as_ (actor_begun w.image b e) })
    (put_put w.actors (ready w.actors a) (takes w.image b e) (takes_name w.image b e ∙ (name ∙ sym (ready_name w.actors a))))

pub settles_after : (w : WorldState) (a : ActorState) (e : Event) → actor_named w.actors a.name ≡ Some a → has_ended a.phase ≡ false → all_at_rest (apply_event (resumed w a) (at_rest w a) e).world ≡ settled_after (all_at_rest w) (at_rest w a) e
unfolding settled_after
settles_after w a e there live =
    ap all_at_rest (after_resumed w a b e (at_rest-name w a))
    ∙ ap (λ as_. record { image = w.image; cells = cells_after w.cells e; actors = as_ })
    (map_begun (at_rest v) (at_rest u) (put_actor w.actors x) (put_actor (all_at_rest w).actors x) o
    (map_put (at_rest v) (at_rest u) (at_rest w) (at_rest-name w) (λ y. sym (ap (rest w.image) (ready_alike u.actors v.actors (λ n. sym (ends n)) (at_rest w y)) ∙ rested_then w.image w.actors v.actors y first)) w.actors x (agree x)) agree)
  where
    b : ActorState
    b = at_rest w a

    x : ActorState
    x = takes w.image b e

    o : Option ActorState
    o = actor_begun w.image b e

    v : WorldState
    v = (apply_event w b e).world

    u : WorldState
    u = (apply_event (all_at_rest w) b e).world

    ends : EndAlike v.actors u.actors
    ends = alike_ends v.actors u.actors (alike_begun (put_actor w.actors x) (put_actor (all_at_rest w).actors x) o (alike_put w.actors (all_at_rest w).actors x (alike_settled w w.actors)))

    first : EndsFirst w.actors v.actors
    first = ends_first w.actors a x o there (takes_name w.image b e ∙ at_rest-name w a) live

    agree : (y : ActorState) → at_rest v y ≡ at_rest u y
    agree y = ap (rest w.image) (ready_alike v.actors u.actors ends y)

-- an actor comes to the same event in a world that is settled, and in one in which it went on
pub settled_event : (w : WorldState) (b : ActorState) (q : Want) → event_at (all_at_rest w) b q ≡ event_at w b q
settled_event w b (want.Join k) = ap (option_map (λ (x : End × ℕ). event.Join k x.0 x.1)) (ap ended_with (settled_named w (child_name b.name k)) ∙ some_at_rest w (actor_named w.actors (child_name b.name k)))
settled_event w b (want.Start child) = refl
settled_event w b (want.Enter run) = refl
settled_event w b (want.Leave e) = refl
settled_event w b (want.Gate id q) = refl
settled_event w b q = refl

-- one that is put has ended as the one of its name did
pub put_ends : (actors : List ActorState) (a x : ActorState) → actor_named actors a.name ≡ Some a → x.name ≡ a.name → ended_with (Some x) ≡ ended_with (Some a) → EndAlike (put_actor actors x) actors
put_ends actors a x there name end n = by_name (same a.name n) refl
  where
    by_name : (t : Bool) → same a.name n ≡ t → ended_with (actor_named (put_actor actors x) n) ≡ ended_with (actor_named actors n)
    by_name true s =
        let is = same_equal a.name n s in
        let found : actor_named (put_actor actors x) a.name ≡ Some x = subst (λ m. actor_named (put_actor actors x) m ≡ Some x) name (named_put actors x a (ap (actor_named actors) name ∙ there)) in
        ap (λ m. ended_with (actor_named (put_actor actors x) m)) (sym is) ∙ (ap ended_with found ∙ (end ∙ (ap ended_with (sym there) ∙ ap (λ m. ended_with (actor_named actors m)) is)))
    by_name false s = ap ended_with (named_put_other actors x n (ap (λ m. same m n) name ∙ s))

pub resumed_ends : (w : WorldState) (a : ActorState) → actor_named w.actors a.name ≡ Some a → EndAlike (resumed w a).actors w.actors
resumed_ends w a there = put_ends w.actors a (ready w.actors a) there (ready_name w.actors a) (ready_end w.actors a)

-- where all have ended alike, an actor comes to the same event
pub ends_event : (v w : WorldState) (b : ActorState) (q : Want) → v.cells ≡ w.cells → EndAlike v.actors w.actors → event_at v b q ≡ event_at w b q
ends_event v w b (want.Join k) same ends = ap (option_map (λ (x : End × ℕ). event.Join k x.0 x.1)) (ends (child_name b.name k))
ends_event v w b (want.Start child) same ends = refl
ends_event v w b (want.Enter run) same ends = refl
ends_event v w b (want.Leave e) same ends = refl
ends_event v w b (want.Slots q) same ends = ap (λ c. event_of c (asks b (live_at c (want.Slots q)) (want.Slots q))) same
ends_event v w b (want.Slot slot q) same ends = ap (λ c. event_of c (asks b (live_at c (want.Slot slot q)) (want.Slot slot q))) same
ends_event v w b (want.Fds q) same ends = ap (λ c. event_of c (asks b (live_at c (want.Fds q)) (want.Fds q))) same
ends_event v w b (want.Fd fd q) same ends = ap (λ c. event_of c (asks b (live_at c (want.Fd fd q)) (want.Fd fd q))) same
ends_event v w b (want.Lives q) same ends = ap (λ c. event_of c (asks b (live_at c (want.Lives q)) (want.Lives q))) same
ends_event v w b (want.Gate id q) same ends = ap (λ c. gate_event c id q) same

pub resumed_event : (w : WorldState) (a b : ActorState) (q : Want) → actor_named w.actors a.name ≡ Some a → event_at (resumed w a) b q ≡ event_at w b q
resumed_event w a b q there = ends_event (resumed w a) w b q refl (resumed_ends w a there)

-- ---- a world in which one actor is at rest
-- going on and coming to rest twice is doing so once
pub at_rest_twice : (w : WorldState) (a : ActorState) → at_rest w (at_rest w a) ≡ at_rest w a
at_rest_twice w a = rested_then w.image w.actors w.actors a (λ n x e. e)

map_put_same : (f : ActorState → ActorState) (actors : List ActorState) (a x : ActorState) → actor_named actors a.name ≡ Some a → x.name ≡ a.name → f x ≡ f a → map f (put_actor actors x) ≡ map f actors
map_put_same f [] a x there name same_x = absurd (let e = there in cc)
map_put_same f (y ∷ ys) a x there name same_x = by_name (same y.name x.name) (same y.name a.name) (ap (same y.name) name) there (λ here. map_put_same f ys a x here name same_x)
  where
    by_name : (t u : Bool) → t ≡ u → (if u then Some y else actor_named ys a.name) ≡ Some a → (actor_named ys a.name ≡ Some a → map f (put_actor ys x) ≡ map f ys) → map f (if t then x ∷ ys else y ∷ put_actor ys x) ≡ f y ∷ map f ys
    by_name true true at h others = let is : y ≡ a = cc in ap (λ z. z ∷ map f ys) (same_x ∙ ap f (sym is))
    by_name true false at h others = absurd cc
    by_name false true at h others = absurd cc
    by_name false false at h others = ap (λ zs. f y ∷ zs) (others h)

map_agree : (f g : ActorState → ActorState) → ((a : ActorState) → f a ≡ g a) → (actors : List ActorState) → map f actors ≡ map g actors
map_agree f g agree [] = refl
map_agree f g agree (a ∷ as_) = ap (λ y. y ∷ map f as_) (agree a) ∙ ap (λ ys. g a ∷ ys) (map_agree f g agree as_)

-- it differs in local events alone
pub put_settled : (w : WorldState) (a x : ActorState) → actor_named w.actors a.name ≡ Some a → x.name ≡ a.name → ended_with (Some x) ≡ ended_with (Some a) → at_rest w x ≡ at_rest w a → all_at_rest (record w { actors = put_actor w.actors x }) ≡ all_at_rest w
put_settled w a x there name end alike =
    let v : WorldState = record w { actors = put_actor w.actors x } in
    ap (λ as_. record { image = w.image; cells = w.cells; actors = as_ })
    (map_agree (at_rest v) (at_rest w) (λ y. ap (rest w.image) (ready_alike v.actors w.actors (put_ends w.actors a x there name end) y)) v.actors
    ∙ map_put_same (at_rest w) w.actors a x there name alike)

pub rests_settled : (w : WorldState) (a : ActorState) → actor_named w.actors a.name ≡ Some a → all_at_rest (record w { actors = put_actor w.actors (at_rest w a) }) ≡ all_at_rest w
rests_settled w a there = put_settled w a (at_rest w a) there (at_rest-name w a) (ended_at_rest w a) (at_rest_twice w a)

-- a turn with this event, to a world that differs from another in local events alone
pub record TurnsAlike (w : WorldState) (name : List ℕ) (e : Event) (new : WorldState) : Type 0 where
  pub to : WorldState
  pub turn : turn_of w name ≡ Some (record { event = e; world = to })
  pub alike : all_at_rest new ≡ all_at_rest to

-- the actor of a turn is there under its own name, and has not ended
pub turned_there : (w : WorldState) (name : List ℕ) (a : ActorState) → actor_named w.actors name ≡ Some a → actor_named w.actors a.name ≡ Some a
turned_there w name a named = ap (actor_named w.actors) (found_name w.actors name a named) ∙ named

-- an actor of a world that is settled as another, with its turn there
turn_as : (v w : WorldState) (name : List ℕ) (e : Event) (a c b : ActorState) (q : Want) → all_at_rest v ≡ all_at_rest w → actor_named v.actors name ≡ Some a → actor_named w.actors name ≡ Some c → at_rest v a ≡ b → at_rest w c ≡ b → current_want b ≡ Some q → event_at (resumed v a) b q ≡ Some e
    → TurnsAlike w name e (apply_event (resumed v a) b e).world
unfolding turn_of
turn_as v w name e a c b q alike named other first second wants comes =
    let here = turned_there v name a named in
    let there = turned_there w name c other in
    let live : has_ended b.phase ≡ false = wants_live b q wants in
    let event_is : event_at (resumed w c) b q ≡ Some e =
    resumed_event w c b q there ∙ (sym (settled_event w b q) ∙ (ap (λ (x : WorldState). event_at x b q) (sym alike) ∙ (settled_event v b q ∙ (sym (resumed_event v a b q here) ∙ comes)))) in
    let live_c = sym (at_rest-ended w c) ∙ (ap (λ (y : ActorState). has_ended y.phase) second ∙ live) in
    let live_a = sym (at_rest-ended v a) ∙ (ap (λ (y : ActorState). has_ended y.phase) first ∙ live) in
    record {
      to = (apply_event (resumed w c) b e).world;
      turn = ap (turn_with w) other ∙ (ap (λ (y : ActorState). wanting (resumed w c) y (current_want y)) second ∙ (ap (wanting (resumed w c) b) wants ∙ ap (option_map (apply_event (resumed w c) b)) event_is));
      alike = ap (λ (y : ActorState). all_at_rest (apply_event (resumed v a) y e).world) (sym first) ∙ (settles_after v a e here live_a
          ∙ (ap (λ x. settled_after x (at_rest v a) e) alike ∙ (ap (λ y. settled_after (all_at_rest w) y e) (first ∙ sym second) ∙ (sym (settles_after w c e there live_c)
          ∙ ap (λ (y : ActorState). all_at_rest (apply_event (resumed w c) y e).world) second))));
    }

pub turns_alike : (v w : WorldState) (name : List ℕ) (e : Event) (new : WorldState) → all_at_rest v ≡ all_at_rest w → turn_of v name ≡ Some (record { event = e; world = new }) → TurnsAlike w name e new
turns_alike v w name e new alike t =
    let p = turn_from v name e new t in
    let b = rest v.image p.parts.actor in
    let first : at_rest v p.actor ≡ b = ap (rest v.image) (sym p.is) in
    let other = rests_alike v w name p.actor alike p.named in
    let same_turn = turn_as v w name e p.actor other.from b p.parts.want alike p.named other.there first (other.is ∙ first) p.parts.wants p.parts.comes in
    record { to = same_turn.to; turn = same_turn.turn; alike = ap all_at_rest p.parts.new_is ∙ same_turn.alike }

-- ---- the same end

pub whole_alike : (v w : WorldState) → all_at_rest v ≡ all_at_rest w → is_complete v ≡ is_complete w
whole_alike v w alike = sym (whole_at_rest v) ∙ ap (λ (x : WorldState). is_complete x) alike ∙ whole_at_rest w
  where
    ended_too : (x : WorldState) (o : Option ActorState) → is_ended (option_map (at_rest x) o) ≡ is_ended o
    ended_too x None = refl
    ended_too x (Some a) = at_rest-ended x a

    whole_at_rest : (x : WorldState) → is_complete (all_at_rest x) ≡ is_complete x
    whole_at_rest x = ap is_ended (settled_named x root_name) ∙ ended_too x (actor_named x.actors root_name)

no_line : (i : Image) (a : ActorState) (p : Phase) (ls : List ActorLine) → has_ended p ≡ false → with_actor_line i a p ls ≡ ls
no_line i a phase.Running ls e = refl
no_line i a (phase.Within q) ls e = refl
no_line i a (phase.Starting pre) ls e = refl
no_line i a (phase.MakingGate pre) ls e = refl
no_line i a (phase.Opening slot tag) ls e = refl
no_line i a (phase.Releasing slot) ls e = refl
no_line i a (phase.Entering entrance) ls e = refl
no_line i a (phase.Waiting number) ls e = refl
no_line i a (phase.OpeningFile o) ls e = refl
no_line i a (phase.Ending x) ls e = refl
no_line i a (phase.Ended x) ls e = absurd cc

line_at_rest : (w : WorldState) (i : Image) (a : ActorState) (ls : List ActorLine) (t : Bool) → has_ended a.phase ≡ t → with_actor_line i (at_rest w a) (at_rest w a).phase ls ≡ with_actor_line i a a.phase ls
line_at_rest w i a ls true e = ap (λ (x : ActorState). with_actor_line i x x.phase ls) (at_rest-stays w a e)
line_at_rest w i a ls false e = no_line i (at_rest w a) (at_rest w a).phase ls (at_rest-ended w a ∙ e) ∙ sym (no_line i a a.phase ls e)

lines_at_rest : (w : WorldState) (i : Image) (actors : List ActorState) → lines_of i (map (at_rest w) actors) ≡ lines_of i actors
lines_at_rest w i [] = refl
lines_at_rest w i (a ∷ as_) = ap (with_actor_line i (at_rest w a) (at_rest w a).phase) (lines_at_rest w i as_) ∙ line_at_rest w i a (lines_of i as_) _ refl

labels_at_rest : (w : WorldState) (actors : List ActorState) → labels_of (map (at_rest w) actors) ≡ labels_of actors
labels_at_rest w [] = refl
labels_at_rest w (a ∷ as_) = ap (λ ls. ls ++ labels_of (map (at_rest w) as_)) (at_rest-labels w a) ∙ ap (λ ls. a.labels ++ ls) (labels_at_rest w as_)

pub outcome_alike : (v w : WorldState) → all_at_rest v ≡ all_at_rest w → outcome_of v ≡ outcome_of w
outcome_alike v w alike = sym (outcome_at_rest v) ∙ ap (λ (x : WorldState). outcome_of x) alike ∙ outcome_at_rest w
  where
    outcome_at_rest : (x : WorldState) → outcome_of (all_at_rest x) ≡ outcome_of x
    outcome_at_rest x =
        ap (λ ls. record { actors = ls; streams = streams_of x.image (labels_of (all_at_rest x).actors) 0 x.cells.streams }) (lines_at_rest x x.image x.actors)
        ∙ ap (λ labels. record { actors = lines_of x.image x.actors; streams = streams_of x.image labels 0 x.cells.streams }) (labels_at_rest x x.actors)

-- ---- what every actor of a run is in as it rests

abbrev pub AllRead : Image → List ActorState → Type 0
AllRead i [] = Unit {0}
AllRead i (b ∷ bs) = ReadsAs i b b.phase × AllRead i bs

-- the slots and descriptors are those of a run of the image, and their directories give out such alone
pub record AreCells (i : Image) (c : Cells) : Type 0 where
  pub places : GivesBelow (slots_in i) c.places
  pub slots : length c.slots ≡ slots_in i
  pub numbers : GivesBelow (fds_in i) c.numbers
  pub streams : length c.streams ≡ fds_in i

-- no draft of an actor has more grants than a draft may have
abbrev pub AllFew : List ActorState → Type 0
AllFew [] = Unit {0}
AllFew (b ∷ bs) = AreFew b.drafts × AllFew bs

-- every actor rests at its request, at its end, or at none
pub record AllReady (w : WorldState) : Type 0 where
  pub actors : AllRead w.image (all_at_rest w).actors
  pub drafts : AllFew (all_at_rest w).actors
  pub cells : AreCells w.image w.cells

pub all_alike : (v w : WorldState) → all_at_rest v ≡ all_at_rest w → AllReady w → AllReady v
all_alike v w alike all = record {
  actors = subst (λ (x : WorldState). AllRead x.image x.actors) (sym alike) all.actors;
  drafts = subst (λ (x : WorldState). AllFew x.actors) (sym alike) all.drafts;
  cells = subst (λ (x : WorldState). AreCells x.image x.cells) (sym alike) all.cells;
}

first_reads : (i : Image) (b a : ActorState) (o : Option ActorState) (t : Bool) → (if t then Some b else o) ≡ Some a → ReadsAs i b b.phase → (o ≡ Some a → ReadsAs i a a.phase) → ReadsAs i a a.phase
first_reads i b a o true e h others = let is : b ≡ a = cc in subst (λ (x : ActorState). ReadsAs i x x.phase) is h
first_reads i b a o false e h others = others e

named_reads : (i : Image) (bs : List ActorState) (name : List ℕ) (b : ActorState) → AllRead i bs → actor_named bs name ≡ Some b → ReadsAs i b b.phase
named_reads i [] name b all e = absurd cc
named_reads i (x ∷ xs) name b all e = first_reads i x b (actor_named xs name) (same x.name name) e all.0 (named_reads i xs name b all.1)

pub named_ready : (w : WorldState) (name : List ℕ) (a : ActorState) → AllReady w → actor_named w.actors name ≡ Some a → ReadsAs w.image (at_rest w a) (at_rest w a).phase
named_ready w name a all named =
    named_reads w.image (all_at_rest w).actors name (at_rest w a) all.actors (settled_named w name ∙ ap (option_map (at_rest w)) named)

named_few : (bs : List ActorState) (name : List ℕ) (b : ActorState) → AllFew bs → actor_named bs name ≡ Some b → AreFew b.drafts
named_few [] name b all e = absurd cc
named_few (x ∷ xs) name b all e = by_name (same x.name name) e (named_few xs name b all.1)
  where
    by_name : (t : Bool) → (if t then Some x else actor_named xs name) ≡ Some b → (actor_named xs name ≡ Some b → AreFew b.drafts) → AreFew b.drafts
    by_name true h others = let is : x ≡ b = cc in subst (λ (y : ActorState). AreFew y.drafts) is all.0
    by_name false h others = others h

pub actor_few : (w : WorldState) (name : List ℕ) (a : ActorState) → AllReady w → actor_named w.actors name ≡ Some a → AreFew (at_rest w a).drafts
actor_few w name a all named =
    named_few (all_at_rest w).actors name (at_rest w a) all.drafts (settled_named w name ∙ ap (option_map (at_rest w)) named)

put_few : (bs : List ActorState) (x : ActorState) → AllFew bs → AreFew x.drafts → AllFew (put_actor bs x)
put_few [] x all h = (h, tt)
put_few (b ∷ bs) x all h = by_name (same b.name x.name) (put_few bs x all.1 h)
  where
    by_name : (t : Bool) → AllFew (put_actor bs x) → AllFew (if t then x ∷ bs else b ∷ put_actor bs x)
    by_name true others = (h, all.1)
    by_name false others = (all.0, others)

begun_few : (bs : List ActorState) (o : Option ActorState) → AllFew bs → ((c : ActorState) → o ≡ Some c → AreFew c.drafts) → AllFew (with_begun bs o)
begun_few bs None all h = all
begun_few [] (Some c) all h = (h c refl, tt)
begun_few (b ∷ bs) (Some c) all h = (all.0, begun_few bs (Some c) all.1 h)

put_or_reads : (i : Image) (x b : ActorState) (bs others : List ActorState) (t : Bool) → ReadsAs i x x.phase → ReadsAs i b b.phase → AllRead i bs → AllRead i others → AllRead i (if t then x ∷ bs else b ∷ others)
put_or_reads i x b bs others true h k all rest_ = (h, all)
put_or_reads i x b bs others false h k all rest_ = (k, rest_)

put_reads : (i : Image) (bs : List ActorState) (x : ActorState) → AllRead i bs → ReadsAs i x x.phase → AllRead i (put_actor bs x)
put_reads i [] x all h = (h, tt)
put_reads i (b ∷ bs) x all h = put_or_reads i x b bs (put_actor bs x) (same b.name x.name) h all.0 all.1 (put_reads i bs x all.1 h)

begun_reads : (i : Image) (bs : List ActorState) (o : Option ActorState) → AllRead i bs → ((c : ActorState) → o ≡ Some c → ReadsAs i c c.phase) → AllRead i (with_begun bs o)
begun_reads i bs None all h = all
begun_reads i [] (Some c) all h = (h c refl, tt)
begun_reads i (b ∷ bs) (Some c) all h = (all.0, begun_reads i bs (Some c) all.1 h)

-- an actor that has just begun is as it should
run_begins : (i : Image) (b : ActorState) (run : List ℕ) (kept : Option PrivateMemory) (p : Phase) (c : ActorState) → run_at b run kept p ≡ Some c → ReadsAs i c c.phase × AreFew c.drafts
run_begins i b run kept (phase.Entering x) c is = let same_run : run_by b run kept x ≡ c = cc in subst (λ (y : ActorState). ReadsAs i y y.phase × AreFew y.drafts) same_run (tt, tt)
run_begins i b run kept phase.Running c is = absurd cc
run_begins i b run kept (phase.Within q) c is = absurd cc
run_begins i b run kept (phase.Starting pre) c is = absurd cc
run_begins i b run kept (phase.MakingGate pre) c is = absurd cc
run_begins i b run kept (phase.Opening slot tag) c is = absurd cc
run_begins i b run kept (phase.Releasing slot) c is = absurd cc
run_begins i b run kept (phase.OpeningFile o) c is = absurd cc
run_begins i b run kept (phase.Waiting k) c is = absurd cc
run_begins i b run kept (phase.Ending e) c is = absurd cc
run_begins i b run kept (phase.Ended e) c is = absurd cc

begins_ready : (i : Image) (b : ActorState) (e : Event) (c : ActorState) → actor_begun i b e ≡ Some c → ReadsAs i c c.phase × AreFew c.drafts
begins_ready i b (event.Start child) c is =
    let same_child : child_of i b child ≡ c = cc in
    subst (λ (x : ActorState). ReadsAs i x x.phase × AreFew x.drafts) same_child (tt, tt)
begins_ready i b (event.Enter run) c is = run_begins i b run None b.phase c is
begins_ready i b (event.Gate id (gate_ask.Enter run first) (gate_reply.Entered memory)) c is = run_begins i b run (Some memory) b.phase c is
begins_ready i b e c is = absurd cc

-- an actor that goes on, and comes to rest, stays as it should be
ready_reads : (i : Image) (actors : List ActorState) (a : ActorState) → ReadsAs i a a.phase → ReadsAs i (ready actors a) (ready actors a).phase
ready_reads i actors a h = ready_is (λ x. ReadsAs i x x.phase) actors a h (λ k e fuel. tt)

ready_few : (actors : List ActorState) (a : ActorState) → AreFew a.drafts → AreFew (ready actors a).drafts
ready_few actors a h = ready_is (λ x. AreFew x.drafts) actors a h (λ k e fuel. h)

map_reads : (w : WorldState) (bs : List ActorState) → AllRead w.image bs → AllRead w.image (map (at_rest w) bs)
map_reads w [] all = tt
map_reads w (b ∷ bs) all = (rest_reads w.image (ready w.actors b) (ready_reads w.image w.actors b all.0), map_reads w bs all.1)

map_few : (w : WorldState) (bs : List ActorState) → AllFew bs → AllFew (map (at_rest w) bs)
map_few w [] all = tt
map_few w (b ∷ bs) all = (rest_few w.image (ready w.actors b) (ready_few w.actors b all.0), map_few w bs all.1)

-- what a turn's actor comes to
pub turn_happens : (w : WorldState) (name : List ℕ) (e : Event) (new : WorldState) → AllReady w → (p : Turned w name e new) → Happens (resumed w p.actor) (rest w.image p.parts.actor) e
turn_happens w name e new all p =
    happens (resumed w p.actor) (rest w.image p.parts.actor) p.parts.want e
    (subst (λ (x : ActorState). ReadsAs w.image (rest w.image x) (rest w.image x).phase) (sym p.is) (named_ready w name p.actor all p.named)) p.parts.wants p.parts.comes

-- an event leaves the slots and their directory as those of a run
set_length : {X : Type 0} (xs : List X) (n : ℕ) (x : X) → length (slice_set xs n x) ≡ length xs
set_length [] n x = refl
set_length (y ∷ ys) zero x = refl
set_length (y ∷ ys) (suc n) x = ap suc (set_length ys n x)

-- an event leaves as many slots as there were
pub slots_size : (c : Cells) (e : Event) → length (cells_after c e).slots ≡ length c.slots
slots_size c (event.Slot slot q r) = set_length c.slots slot (slot_after (slot_in c slot) q r)
slots_size c (event.Slots q r) = refl
slots_size c (event.Fds q r) = refl
slots_size c (event.Fd fd q r) = refl
slots_size c (event.Lives q r) = refl
slots_size c (event.Gate id q r) = refl
slots_size c (event.Start child) = refl
slots_size c (event.Join k end fuel) = refl
slots_size c (event.Enter run) = refl
slots_size c (event.Leave end) = refl

cells_kept : (i : Image) (c : Cells) (e : Event) → AreCells i c → AreCells i (cells_after c e)
cells_kept i c (event.Slots q r) h = record { places = next_sound (slots_in i) c.places q h.places; slots = h.slots; numbers = h.numbers; streams = h.streams }
cells_kept i c (event.Slot slot q r) h = record { places = h.places; slots = slots_size c (event.Slot slot q r) ∙ h.slots; numbers = h.numbers; streams = h.streams }
cells_kept i c (event.Fds q r) h = record { places = h.places; slots = h.slots; numbers = next_sound (fds_in i) c.numbers q h.numbers; streams = h.streams }
cells_kept i c (event.Fd fd q r) h =
    record { places = h.places; slots = h.slots; numbers = h.numbers; streams = set_length c.streams fd (stream_after (stream_in c fd) q r) ∙ h.streams }
cells_kept i c (event.Lives q r) h = record { places = h.places; slots = h.slots; numbers = h.numbers; streams = h.streams }
cells_kept i c (event.Gate id q r) h = record { places = h.places; slots = h.slots; numbers = h.numbers; streams = h.streams }
cells_kept i c (event.Start child) h = h
cells_kept i c (event.Join k end fuel) h = h
cells_kept i c (event.Enter run) h = h
cells_kept i c (event.Leave end) h = h

pub turn_ready : (w : WorldState) (name : List ℕ) (e : Event) (new : WorldState) → AllReady w → turn_of w name ≡ Some (record { event = e; world = new }) → AllReady new
unfolding settled_after
turn_ready w name e new all t =
    let p = turn_from w name e new t in
    let b = at_rest w p.actor in
    let is : rest w.image p.parts.actor ≡ b = ap (rest w.image) p.is in
    let x = takes w.image b e in
    let u = (apply_event (all_at_rest w) b e).world in
    let there = turned_there w name p.actor p.named in
    let live = sym (at_rest-ended w p.actor) ∙ wants_live b p.parts.want (ap (λ (y : ActorState). current_want y) (sym is) ∙ p.parts.wants) in
    let happens_so : Happens (resumed w p.actor) b e = subst (λ y. Happens (resumed w p.actor) y e) is (turn_happens w name e new all p) in
    let reads = takes_reads (resumed w p.actor) b e all.cells.places all.cells.numbers happens_so in
    let few = takes_few w.image b e (actor_few w name p.actor all p.named) in
    let same_world : all_at_rest new ≡ all_at_rest u = ap all_at_rest (p.parts.new_is ∙ ap (λ (y : ActorState). (apply_event (resumed w p.actor) y e).world) is) ∙ settles_after w p.actor e there live in
    record {
      actors = subst (λ (y : WorldState). AllRead y.image y.actors) (sym same_world) (map_reads u u.actors (begun_reads w.image (put_actor (all_at_rest w).actors x) (actor_begun w.image b e) (put_reads w.image (all_at_rest w).actors x all.actors reads) (λ c h. (begins_ready w.image b e c h).0)));
      drafts = subst (λ (y : WorldState). AllFew y.actors) (sym same_world) (map_few u u.actors (begun_few (put_actor (all_at_rest w).actors x) (actor_begun w.image b e) (put_few (all_at_rest w).actors x all.drafts few) (λ c h. (begins_ready w.image b e c h).1)));
      cells = subst (λ (y : WorldState). AreCells y.image y.cells) (sym same_world) (cells_kept w.image w.cells e all.cells);
    }

-- as a run begins, the slots and descriptors are those that are declared, and then empty ones
declared_length : (n : ℕ) (ts : List TagEntry) → length (declared_slots n ts) ≡ length ts
declared_length n [] = refl
declared_length n (t ∷ ts) = ap suc (declared_length (n + 1) ts)

streams_length : (fs : List FdEntry) → length (map {B = Option Stream} (λ f. Some (declared_stream f)) fs) ≡ length fs
streams_length [] = refl
streams_length (f ∷ fs) = ap suc (streams_length fs)

replicate_length : (X : Type 0) (n : ℕ) → length (replicate {A = Option X} n None) ≡ n
replicate_length X zero = refl
replicate_length X (suc n) = ap suc (replicate_length X n)

nothings_length : (X : Type 0) (n : ℕ) → length (nothings {X = X} n) ≡ n
unfolding nothings
nothings_length X n = replicate_length X n

-- one after the other
filled_length : (X : Type 0) (xs : List (Option X)) (n m : ℕ) → length xs ≡ n → length (xs ++ nothings {X = X} m) ≡ n + m
filled_length X xs n m is = length-append xs (nothings m) ∙ (ap (λ k. k + length (nothings {X = X} m)) is ∙ ap (λ k. n + k) (nothings_length X m))

pub opening_ready : (i : Image) → AllReady (initial_state i)
unfolding root
opening_ready i = record {
  actors = map_reads (initial_state i) (root i ∷ []) (tt, tt);
  drafts = map_few (initial_state i) (root i ∷ []) (tt, tt);
  cells = record {
    places = (enough most_slots (length i.tags), some (length i.tags) (most_slots - length i.tags), tt);
    slots = filled_length Segment (declared_slots 0 i.tags) (length i.tags) (most_slots - length i.tags) (declared_length 0 i.tags);
    numbers = (enough most_fds (length i.fds), some (length i.fds) (most_fds - length i.fds), tt);
    streams = filled_length Stream (map (λ f. Some (declared_stream f)) i.fds) (length i.fds) (most_fds - length i.fds) (streams_length i.fds);
  };
}
  where
    enough : (m n : ℕ) → m ≤ n + (m - n)
    enough m n = omega arith

    some : (m n : ℕ) → m ≤ m + n
    some m n = omega arith

runs_ready : (old : WorldState) (turns : List Turn) (new : WorldState) → AllReady old → Runs old turns new → AllReady new
runs_ready old [] new all run = subst AllReady (sym run) all
runs_ready old (t ∷ ts) new all run = runs_ready run.0 ts new (turn_ready old t.actor t.event run.0 all run.1) run.2

pub run_ready : (i : Image) (turns : List Turn) (new : WorldState) → Runs (initial_state i) turns new → AllReady new
run_ready i turns new run = runs_ready (initial_state i) turns new (opening_ready i) run
