-- No gate of a run gives more on what the image declares than the root has.
use Rattle.std.proofs.Common.{◌≡◌, inl, inr, ℕ, zero, suc, ◌+◌, ◌<◌, Bool, true, false, List, [], ◌∷◌, ◌++◌, length, refl, sym, ap, subst, ◌∙◌}
use Rattle.std.specs.List.{AllByRecursion}
use Rattle.std.specs.Option.{option_or}
use Rattle.std.specs.Prelude.{Option, Some, None, IfSome, option_map, unwrap_or, if◌then◌else◌}
use Rattle.wedge_base.specs.Images.{Image}
use Rattle.wedge_base.specs.Maps.{at}
use Rattle.wedge_base.specs.Names.{same}
use Rattle.wedge_base.specs.Paths.{under}
use Rattle.wedge_base.specs.Rights.{at_least, no_bits, bits_within}
use Rattle.wedge_base.specs.Sheets.{Sheet, Made, nothing_made, right_on, bits_on, bits_in}
use Rattle.wedge_base.specs.declared.rights.Grant.{Grant}
use Rattle.wedge_base.specs.declared.rights.Right.{Right}
use Rattle.wedge_events.specs.declared.events.Event.{Event}
use Rattle.wedge_events.specs.declared.events.Turn.{Turn}
use Rattle.wedge_base.specs.declared.rights.FdBits.{FdBits}
use Rattle.callgate.specs.Lending.{IsRunSheet, tag_lent, fd_lent}
use Rattle.callgate.specs.declared.gate.Gate.{Gate}
use Rattle.grant_sheet.specs.Granting.{IsWithin}
use Rattle.machine.specs.Actors.{ActorState, root, right_of, bits_of, but_gates}
use Rattle.run_laws.specs.Bounds.{HasNoMoreThanRoot}
use Rattle.machine.specs.Calls.{a0}
use Rattle.machine.specs.Children.{child_name}
use Rattle.run_laws.specs.Families.{IsRun}
use Rattle.machine.specs.Entering.{sheet_lent}
use Rattle.run_laws.specs.Laws.{RootBounds}
use Rattle.machine.specs.Local.{is_running, step, run_local, rest}
use Rattle.machine.specs.Take.{next_start, takes, child_of, run_by, actor_begun}
use Rattle.machine.specs.Worlds.{WorldState, initial_state, actor_named, put_actor, with_begun, turn_of, ready, resumed, Runs, with_actor}
use Rattle.run_laws.proofs.Between.{takes_name}
use Rattle.run_laws.proofs.Bounding.{IsBounded, AllBounded, least_of, child_user, child_directory, within_bits, given_alone, rest_bounded, back_bounded, turn_bounded, opening_bounded, run_image}
use Rattle.run_laws.proofs.FamilyRuns.{Acts, ActsAlone, Starts, Enters, Joins, acts, one_begins}
use Rattle.run_laws.proofs.GateMoments.{event_makes_gates}
use Rattle.run_laws.proofs.GateRuns.{each_entered}
use Rattle.run_laws.proofs.KnownGates.{Grows, Keeps, Adds, step_grows, by_phase}
use Rattle.machine.proofs.Resting.{steps_step, stays, goes_on, rest-name}
use Rattle.run_laws.proofs.Settling.{AllReady, turn_happens, turn_ready, opening_ready, turned_there}
use Rattle.run_laws.proofs.Trees.{IsPut, IsDoer, IsOther, FoundPut, find_put, found_or_last}
use Rattle.run_laws.proofs.Turns.{ready_is, ready_name, Turned, turn_from}

abbrev AreGatesBounded : Image → List Gate → Type 0
AreGatesBounded i gs = AllByRecursion (λ (g : Gate). HasNoMoreThanRoot i g.sheet nothing_made) gs

-- a sheet within what has no more than the root has no more either
within_root : (i : Image) (s : Sheet) (m : Made) (c : Sheet) → HasNoMoreThanRoot i s m → IsWithin s m c → HasNoMoreThanRoot i c nothing_made
within_root i s m c own within = record {
  tags = λ tag inside r e. by_grant tag r inside (at c.tags tag) refl e;
  fds = λ fd inside. within_bits (bits_on c nothing_made fd) (bits_on s m fd) (bits_of (root i) fd) (ap (λ x. bits_within x (bits_on s m fd)) (given_alone (bits_in c.fds fd)) ∙ within.fds fd) (own.fds fd inside);
  user = child_user i s c within.user within.root own.user;
  directory = child_directory i.root s c within.root own.directory;
}
  where
    by_grant : (tag : ℕ) (r : Right) → tag < length i.tags → (o : Option Grant) → at c.tags tag ≡ o → at_least (option_map (λ g. g.right) (at c.tags tag)) r ≡ true → at_least (right_of (root i) tag) r ≡ true
    by_grant tag r inside None there e = let f = ap (λ (x : Option Grant). at_least (option_map (λ g. g.right) x) r) (sym there) ∙ e in absurd cc
    by_grant tag r inside (Some g) there e =
        own.tags tag inside r (least_of (right_on s m tag) g.right r (within.tags tag g there) (ap (λ (x : Option Grant). at_least (option_map (λ y. y.right) x) r) (sym there) ∙ e))

-- the sheet of a run, which joins two that have no more than the root, has no more either
lent_root : (i : Image) (b : ActorState) (lent : Option Sheet) → HasNoMoreThanRoot i b.sheet b.made → IfSome lent (IsWithin b.sheet b.made) → IfSome lent (λ s. HasNoMoreThanRoot i s nothing_made)
lent_root i b None own within = tt
lent_root i b (Some s) own within = within_root i b.sheet b.made s own within

sheet_root : (i : Image) (g : Sheet) (lent : Option Sheet) (c : Sheet) → IsRunSheet g lent c → HasNoMoreThanRoot i g nothing_made → IfSome lent (λ s. HasNoMoreThanRoot i s nothing_made) → HasNoMoreThanRoot i c nothing_made
sheet_root i g lent c is gate given = record {
  tags = λ tag inside r e. by_grant tag inside r (at g.tags tag) refl (ap (λ (o : Option Grant). at_least (option_map (λ x. x.right) o) r) (sym (is.tags tag)) ∙ e);
  fds = λ fd inside. ap (λ x. bits_within x (bits_of (root i) fd)) (given_alone (bits_in c.fds fd)) ∙ (ap (λ (o : Option FdBits). bits_within (unwrap_or o no_bits) (bits_of (root i) fd)) (is.fds fd) ∙ by_bits fd inside (at g.fds fd) refl);
  user = λ some. (is.user ∙ (gate.user some).0, is.root ∙ (gate.user some).1);
  directory = ap (under i.root) is.root ∙ gate.directory;
}
  where
    tag_given : (tag : ℕ) → tag < length i.tags → (r : Right) (o : Option Sheet) → IfSome o (λ s. HasNoMoreThanRoot i s nothing_made) → at_least (option_map (λ x. x.right) (tag_lent o tag)) r ≡ true → at_least (right_of (root i) tag) r ≡ true
    tag_given tag inside r None h e = absurd cc
    tag_given tag inside r (Some s) h e = h.tags tag inside r e

    by_grant : (tag : ℕ) → tag < length i.tags → (r : Right) (o : Option Grant) → at g.tags tag ≡ o → at_least (option_map (λ x. x.right) (option_or o (tag_lent lent tag))) r ≡ true → at_least (right_of (root i) tag) r ≡ true
    by_grant tag inside r None there e = tag_given tag inside r lent given e
    by_grant tag inside r (Some x) there e = gate.tags tag inside r (ap (λ (o : Option Grant). at_least (option_map (λ y. y.right) o) r) there ∙ e)

    of_bits : (s : Sheet) (fd : ℕ) → fd < length i.fds → HasNoMoreThanRoot i s nothing_made → bits_within (bits_in s.fds fd) (bits_of (root i) fd) ≡ true
    of_bits s fd inside h = ap (λ x. bits_within x (bits_of (root i) fd)) (sym (given_alone (bits_in s.fds fd))) ∙ h.fds fd inside

    fd_given : (fd : ℕ) → fd < length i.fds → (o : Option Sheet) → IfSome o (λ s. HasNoMoreThanRoot i s nothing_made) → bits_within (unwrap_or (fd_lent o fd) no_bits) (bits_of (root i) fd) ≡ true
    fd_given fd inside None h = refl
    fd_given fd inside (Some s) h = of_bits s fd inside h

    by_bits : (fd : ℕ) → fd < length i.fds → (o : Option FdBits) → at g.fds fd ≡ o → bits_within (unwrap_or (option_or o (fd_lent lent fd)) no_bits) (bits_of (root i) fd) ≡ true
    by_bits fd inside None there = fd_given fd inside lent given
    by_bits fd inside (Some x) there = ap (λ (o : Option FdBits). bits_within (unwrap_or o no_bits) (bits_of (root i) fd)) (sym there) ∙ of_bits g fd inside gate

-- so the run of a gate that an actor knows has no more, where the actor has no more
run_root : (i : Image) (b c : ActorState) → IsRun b c → HasNoMoreThanRoot i b.sheet b.made → AreGatesBounded i b.gates → HasNoMoreThanRoot i c.sheet nothing_made
run_root i b c run own gates =
    sheet_root i run.entrance.gate.sheet (sheet_lent b run.lent) c.sheet run.sheet
    (each_entered (λ (g : Gate). HasNoMoreThanRoot i g.sheet nothing_made) b (a0 b) run.entrance.gate gates run.held) (lent_root i b (sheet_lent b run.lent) own run.within)

one_more : (i : Image) (gs : List Gate) (g : Gate) → AreGatesBounded i gs → HasNoMoreThanRoot i g.sheet nothing_made → AreGatesBounded i (gs ++ g ∷ [])
one_more i [] g all own = (own, tt)
one_more i (x ∷ xs) g all own = (all.0, one_more i xs g all.1 own)

grown : (i : Image) (a b : ActorState) → HasNoMoreThanRoot i a.sheet a.made → AreGatesBounded i a.gates → Grows a b → AreGatesBounded i b.gates
grown i a b own all (Keeps known held count) = subst (AreGatesBounded i) (sym known) all
grown i a b own all (Adds g id within known held count) = subst (AreGatesBounded i) (sym known) (one_more i a.gates g all (within_root i a.sheet a.made g.sheet own within))

-- ---- an actor comes to rest

-- with the same sheet, and the same made but for gates, it has no more still
same_own : (i : Image) (a b : ActorState) → b.sheet ≡ a.sheet → but_gates b.made ≡ but_gates a.made → HasNoMoreThanRoot i a.sheet a.made → HasNoMoreThanRoot i b.sheet b.made
same_own i a b sheet made own = record {
  tags = λ tag inside r e. own.tags tag inside r (sym (ap (λ o. at_least o r) (ap (λ s. right_on s b.made tag) sheet ∙ ap (λ m. right_on a.sheet m tag) made)) ∙ e);
  fds = λ fd inside. ap (λ bits. bits_within bits (bits_of (root i) fd)) (ap (λ s. bits_on s b.made fd) sheet ∙ ap (λ m. bits_on a.sheet m fd) made) ∙ own.fds fd inside;
  user = λ some. (ap (λ (s : Sheet). s.user) sheet ∙ (own.user some).0, ap (λ (s : Sheet). s.root) sheet ∙ (own.user some).1);
  directory = ap (λ (s : Sheet). under i.root s.root) sheet ∙ own.directory;
}

run_gates : (i : Image) (n : ℕ) (a : ActorState) (t : Bool) → is_running a.phase ≡ t → HasNoMoreThanRoot i a.sheet a.made → AreGatesBounded i a.gates → AreGatesBounded i (run_local i n a).gates
run_gates i n a false e own all = subst (λ (x : ActorState). AreGatesBounded i x.gates) (sym (stays i n a e)) all
run_gates i zero a true e own all = unfold run_local in all
run_gates i (suc n) a true e own all =
    let b = step i a in
    let s = steps_step i a in
    let next = run_gates i n b _ refl (same_own i a b s.sheet s.made own) (grown i a b own all (step_grows (initial_state i) a e)) in
    subst (λ (x : ActorState). AreGatesBounded i x.gates) (sym (goes_on i n a e)) next

rest_gates : (i : Image) (a : ActorState) → HasNoMoreThanRoot i a.sheet a.made → AreGatesBounded i a.gates → AreGatesBounded i (rest i a).gates
unfolding rest
rest_gates i a own all = run_gates i (a.fuel + 1) a _ refl own all

own_of : (i : Image) (a : ActorState) → IsBounded i a → HasNoMoreThanRoot i a.sheet a.made
own_of i a bounded = record { tags = λ tag inside r. bounded.tags tag r inside; fds = bounded.fds; user = bounded.user; directory = bounded.directory }

-- ---- runs

abbrev AllGates : Image → List ActorState → Type 0
AllGates i actors = (m : List ℕ) (a : ActorState) → actor_named actors m ≡ Some a → AreGatesBounded i a.gates

put_gates : (i : Image) (actors : List ActorState) (a x : ActorState) → AllGates i actors → AreGatesBounded i x.gates → (m : List ℕ) (y : ActorState) → FoundPut actors a x m y → AreGatesBounded i y.gates
put_gates i actors a x all doer m y (IsDoer is f) = subst (λ (z : ActorState). AreGatesBounded i z.gates) (sym f) doer
put_gates i actors a x all doer m y (IsOther apart f) = all m y f

-- a child knows the gates that its starter knows, and the run of a gate those that its caller knows
begun_gates : (w : WorldState) (b : ActorState) (e : Event) → Acts w b e → AreGatesBounded w.image b.gates → (c : ActorState) → actor_begun w.image b e ≡ Some c → AreGatesBounded w.image c.gates
begun_gates w b e (ActsAlone one) all c is = let f : None ≡ Some c = sym (one_begins w.image b e one) ∙ is in absurd cc
begun_gates w b e (Starts s) all c is =
    let both : Some (child_of w.image b (child_name b.name (next_start b))) ≡ Some c = sym (ap (actor_begun w.image b) s.is) ∙ is in
    let same_child : child_of w.image b (child_name b.name (next_start b)) ≡ c = cc in
    subst (λ (x : ActorState). AreGatesBounded w.image x.gates) same_child all
begun_gates w b e (Enters x) all c is =
    let run = run_by b (child_name b.name (next_start b)) x.kept x.entrance in
    let both : Some run ≡ Some c = sym x.begins ∙ is in
    let same_run : run ≡ c = cc in
    subst (λ (y : ActorState). AreGatesBounded w.image y.gates) same_run all
begun_gates w b e (Joins k listed j) all c is = let f : None ≡ Some c = sym (ap (actor_begun w.image b) j.is) ∙ is in absurd cc

-- an actor that goes on knows the gates that it knew
resumed_gates : (w : WorldState) (a : ActorState) → AllGates w.image w.actors → actor_named w.actors a.name ≡ Some a → AllGates w.image (resumed w a).actors
resumed_gates w a all there m y found =
    let known = all a.name a there in
    let goes = ready_is (λ x. AreGatesBounded w.image x.gates) w.actors a known (λ k e fuel. known) in
    put_gates w.image w.actors a (ready w.actors a) all goes m y (find_put w.actors a (ready w.actors a) m y (record { name = ready_name w.actors a; there = there }) found)

-- the actor of a turn, as it comes to its event
record DoerWithin (i : Image) (b : ActorState) : Type 0 where
  own : HasNoMoreThanRoot i b.sheet b.made
  gates : AreGatesBounded i b.gates

doer_within : (w : WorldState) (name : List ℕ) (e : Event) (new : WorldState) → AllBounded w → AllGates w.image w.actors → (p : Turned w name e new) → DoerWithin w.image (rest w.image p.parts.actor)
doer_within w name e new bounded all p =
    let v = resumed w p.actor in
    let a = p.parts.actor in
    let first = turned_there w name p.actor p.named in
    let there = turned_there v name a p.parts.named in
    let actor : IsBounded w.image a = subst (IsBounded w.image) (sym p.is) (back_bounded w.image w.actors p.actor (bounded.actors p.actor.name p.actor first)) in
    let known = resumed_gates w p.actor all first a.name a there in
    record { own = own_of w.image (rest w.image a) (rest_bounded w.image a actor); gates = rest_gates w.image a (own_of w.image a actor) known }

turn_gates : (w : WorldState) (name : List ℕ) (e : Event) (new : WorldState) → AllReady w → AllGates w.image w.actors → (p : Turned w name e new) → DoerWithin w.image (rest w.image p.parts.actor) → AllGates w.image new.actors
turn_gates w name e new all_ready all p within =
    let v = resumed w p.actor in
    let a = p.parts.actor in
    let b = rest w.image a in
    let x = takes w.image b e in
    let h = turn_happens w name e new all_ready p in
    let there = turned_there v name a p.parts.named in
    let put : IsPut v.actors a x = record { name = takes_name w.image b e ∙ rest-name w.image a; there = there } in
    let doer = grown w.image b x within.own within.gates (by_phase (with_actor v b) b x b.phase e (event_makes_gates v b e h)) in
    subst (λ (y : WorldState). AllGates w.image y.actors) (sym p.parts.new_is)
    (by_begun v a x (resumed_gates w p.actor all (turned_there w name p.actor p.named)) put doer (actor_begun w.image b e) (begun_gates v b e (acts v b e h) within.gates))
  where
    by_begun : (v : WorldState) (a x : ActorState) → AllGates v.image v.actors → IsPut v.actors a x → AreGatesBounded v.image x.gates → (o : Option ActorState) → ((c : ActorState) → o ≡ Some c → AreGatesBounded v.image c.gates) → AllGates v.image (with_begun (put_actor v.actors x) o)
    by_begun v a x goes put doer None child m y found = put_gates v.image v.actors a x goes doer m y (find_put v.actors a x m y put found)
    by_begun v a x goes put doer (Some c) child m y found = elim (found_or_last (put_actor v.actors x) c m y found) [
      | inl f ↦ put_gates v.image v.actors a x goes doer m y (find_put v.actors a x m y put f)
      | inr is ↦ subst (λ (z : ActorState). AreGatesBounded v.image z.gates) (sym is) (child c refl)
    ]

-- the actors of a world and the gates that they know
record AllWithin (w : WorldState) : Type 0 where
  actors : AllBounded w
  gates : AllGates w.image w.actors

turn_within : (w : WorldState) (name : List ℕ) (e : Event) (new : WorldState) → AllReady w → AllWithin w → turn_of w name ≡ Some (record { event = e; world = new }) → AllWithin new
turn_within w name e new all_ready all t =
    let p = turn_from w name e new t in
    let within = doer_within w name e new all.actors all.gates p in
    record {
      actors = turn_bounded w name e new all_ready all.actors p (λ c run. run_root w.image (rest w.image p.parts.actor) c run within.own within.gates);
      gates = subst (λ i. AllGates i new.actors) (sym (ap (λ (x : WorldState). x.image) p.parts.new_is)) (turn_gates w name e new all_ready all.gates p within);
    }

runs_within : (old : WorldState) (turns : List Turn) (new : WorldState) → AllReady old → AllWithin old → Runs old turns new → AllWithin new
runs_within old [] new all_ready all run = subst AllWithin (sym run) all
runs_within old (t ∷ ts) new all_ready all run = runs_within run.0 ts new (turn_ready old t.actor t.event run.0 all_ready run.1) (turn_within old t.actor t.event run.0 all_ready all run.1) run.2

opening_within : (i : Image) → AllWithin (initial_state i)
opening_within i = record { actors = opening_bounded i; gates = λ m a found. by_name (same (root i).name m) found }
  where
    none_known : AreGatesBounded i (root i).gates
    none_known = unfold root in tt

    by_name : {x : ActorState} (t : Bool) → (if t then Some (root i) else None) ≡ Some x → AreGatesBounded i x.gates
    by_name {x} true e = let is : root i ≡ x = cc in subst (λ (y : ActorState). AreGatesBounded i y.gates) is none_known
    by_name {x} false e = absurd cc

pub root_bounds : RootBounds
root_bounds i turns new run name a named =
    let all = runs_within (initial_state i) turns new (opening_ready i) (opening_within i) run in
    let same_image = run_image (initial_state i) turns new run in
    record {
      own = own_of i a (subst (λ j. IsBounded j a) same_image (all.actors.actors name a named));
      gates = subst (λ j. AreGatesBounded j a.gates) same_image (all.gates name a named);
    }
