-- In every run the drafts of each actor have their items in order, and at most 1,024 grants each.
use Rattle.std.proofs.Common.{◌≡◌, ℕ, Bool, true, false, List, [], ◌∷◌, refl, sym, ap, subst, ◌∙◌, inl, inr}
use Rattle.std.specs.Prelude.{Option, Some, None, ◌⊎◌, if◌then◌else◌}
use Rattle.wedge_base.specs.Images.{Image}
use Rattle.wedge_base.specs.Names.{same, root_name}
use Rattle.wedge_events.specs.declared.events.Event.{Event}
use Rattle.wedge_events.specs.declared.events.Turn.{Turn}
use Rattle.machine.specs.Actors.{ActorState, root}
use Rattle.machine.specs.Children.{child_name}
use Rattle.machine.specs.Local.{rest, run_local}
use Rattle.machine.specs.Take.{next_start, takes, actor_begun, child_of, run_by}
use Rattle.run_laws.specs.Laws.{DraftsAreSorted}
use Rattle.machine.specs.Worlds.{WorldState, initial_state, actor_named, put_actor, with_begun, Runs, ready, resumed}
use Rattle.run_laws.proofs.Between.{takes_name}
use Rattle.run_laws.proofs.DraftsFit.{AreFew, get_few, run_few, rest_few, takes_few}
use Rattle.run_laws.proofs.FamilyRuns.{Acts, ActsAlone, Starts, Enters, Joins, acts, one_begins}
use Rattle.run_laws.proofs.Settling.{AllReady, turn_happens, turn_ready, opening_ready, turned_there}
use Rattle.run_laws.proofs.Trees.{IsPut, find_put, IsDoer, IsOther, found_or_last}
use Rattle.run_laws.proofs.Turns.{ready_is, ready_name, Turned, turn_from}
use Rattle.machine.proofs.Resting.{rest-name}

-- the drafts of each actor have at most 1,024 grants each, in order
abbrev FewDrafts : List ActorState → Type 0
FewDrafts actors = (m : List ℕ) (x : ActorState) → actor_named actors m ≡ Some x → AreFew x.drafts

few_put : (actors : List ActorState) (a x : ActorState) → IsPut actors a x → AreFew x.drafts → FewDrafts actors → FewDrafts (put_actor actors x)
few_put actors a x p own h m y found = elim (find_put actors a x m y p found) [
  | IsDoer at one ↦ subst (λ (z : ActorState). AreFew z.drafts) (sym one) own
  | IsOther apart was ↦ h m y was
]

few_begun : (actors : List ActorState) (o : Option ActorState) → ((c : ActorState) → o ≡ Some c → AreFew c.drafts) → FewDrafts actors → FewDrafts (with_begun actors o)
few_begun actors None few h m y found = h m y found
few_begun actors (Some c) few h m y found = by_place (found_or_last actors c m y found)
  where
    by_place : (actor_named actors m ≡ Some y) ⊎ (y ≡ c) → AreFew y.drafts
    by_place (inl was) = h m y was
    by_place (inr one) = subst (λ (z : ActorState). AreFew z.drafts) (sym one) (few c refl)

-- whoever begins has no drafts
begun_few : (w : WorldState) (b : ActorState) (e : Event) (c : ActorState) → Acts w b e → actor_begun w.image b e ≡ Some c → AreFew c.drafts
begun_few w b e c (ActsAlone one) begins = let none : None ≡ Some c = sym (one_begins w.image b e one) ∙ begins in absurd cc
begun_few w b e c (Starts s) begins =
    let two : Some (child_of w.image b (child_name b.name (next_start b))) ≡ Some c = sym (ap (actor_begun w.image b) s.is) ∙ begins in
    let one : child_of w.image b (child_name b.name (next_start b)) ≡ c = cc in
    subst (λ (x : ActorState). AreFew x.drafts) one tt
begun_few w b e c (Enters y) begins =
    let two : Some (run_by b (child_name b.name (next_start b)) y.kept y.entrance) ≡ Some c = sym y.begins ∙ begins in
    let one : run_by b (child_name b.name (next_start b)) y.kept y.entrance ≡ c = cc in
    subst (λ (x : ActorState). AreFew x.drafts) one tt
begun_few w b e c (Joins k listed j) begins = let none : None ≡ Some c = sym (ap (actor_begun w.image b) j.is) ∙ begins in absurd cc

ready_few : (actors : List ActorState) (a : ActorState) → AreFew a.drafts → AreFew (ready actors a).drafts
ready_few actors a h = ready_is (λ (x : ActorState). AreFew x.drafts) actors a h (λ k e fuel. h)

turn_few : (w : WorldState) (name : List ℕ) (e : Event) (new : WorldState) → AllReady w → (p : Turned w name e new) → FewDrafts w.actors → FewDrafts new.actors
turn_few w name e new all p h =
    let v = resumed w p.actor in
    let a = p.parts.actor in
    let b = rest w.image a in
    let x = takes w.image b e in
    let was = turned_there w name p.actor p.named in
    let on : IsPut w.actors p.actor (ready w.actors p.actor) = record { name = ready_name w.actors p.actor; there = was } in
    let goes : FewDrafts v.actors = few_put w.actors p.actor (ready w.actors p.actor) on (ready_few w.actors p.actor (h name p.actor p.named)) h in
    let put : IsPut v.actors a x = record { name = takes_name w.image b e ∙ rest-name w.image a; there = turned_there v name a p.parts.named } in
    let after = few_put v.actors a x put (takes_few w.image b e (rest_few w.image a (goes name a p.parts.named))) goes in
    subst (λ (z : WorldState). FewDrafts z.actors) (sym p.parts.new_is)
    (few_begun (put_actor v.actors x) (actor_begun w.image b e) (λ c begins. begun_few v b e c (acts v b e (turn_happens w name e new all p)) begins) after)

runs_few : (old : WorldState) (turns : List Turn) (new : WorldState) → AllReady old → FewDrafts old.actors → Runs old turns new → FewDrafts new.actors
runs_few old [] new all h run = subst (λ (w : WorldState). FewDrafts w.actors) (sym run) h
runs_few old (t ∷ ts) new all h run = runs_few run.0 ts new (turn_ready old t.actor t.event run.0 all run.1) (turn_few old t.actor t.event run.0 all (turn_from old t.actor t.event run.0 run.1) h) run.2

opening_few : (i : Image) → FewDrafts (initial_state i).actors
unfolding root
opening_few i m x found = by_name (same root_name m) found
  where
    by_name : (t : Bool) → (if t then Some (root i) else None) ≡ Some x → AreFew x.drafts
    by_name true is = let one : root i ≡ x = cc in subst (λ (z : ActorState). AreFew z.drafts) one tt
    by_name false is = absurd cc

pub drafts_sorted : DraftsAreSorted
drafts_sorted i turns w run name a named n k d found =
    let few = runs_few (initial_state i) turns w (opening_ready i) (opening_few i) run name a named in
    let f = get_few (run_local w.image n (ready w.actors a)).drafts k d (run_few w.image n (ready w.actors a) _ refl (ready_few w.actors a few)) found in
    (record { tags = f.tags; fds = f.fds; gates = f.gates }, f.few)
