-- Lives that fit together are a run, whose turns are their entries in the order of the stamps: as long as entries are to come, each
-- actor that is there is at a place of its execution, none of another is there, and each cell is as its history says.
use Rattle.std.proofs.Common.{◌≡◌, ℕ, ◌<◌, ◌≤◌, Bool, true, false, true≢false, List, [], ◌∷◌, ◌++◌, refl, sym, ap, subst, ◌∙◌, arith, inl, inr}
use Rattle.std.proofs.lemmas.List.{append_assoc, append-nil}
use Rattle.std.specs.Prelude.{Option, Some, None, IsSomeAnd, ◌⊎◌, if◌then◌else◌}
use Rattle.wedge_base.specs.Images.{Image}
use Rattle.wedge_base.specs.Names.{same, root_name}
use Rattle.wedge_base.specs.declared.rights.End.{End}
use Rattle.wedge_events.specs.Journals.{turns_of}
use Rattle.wedge_events.specs.declared.events.CellName.{CellName}
use Rattle.wedge_events.specs.declared.events.Event.{Event}
use Rattle.wedge_events.specs.declared.events.Event.TheVariants as event
use Rattle.wedge_events.specs.declared.events.LogEntry.{LogEntry}
use Rattle.machine.specs.declared.phase.Phase.{Phase}
use Rattle.machine.specs.declared.phase.Phase.TheVariants as phase
use Rattle.machine.specs.Actors.{ActorState, root}
use Rattle.machine.specs.Children.{child_name}
use Rattle.machine.specs.Take.{takes, actor_begun}
use Rattle.machine.specs.Cells.{Cells, opening_cells}
use Rattle.run_laws.specs.Walks.{entries_of}
use Rattle.machine.specs.Worlds.{WorldState, initial_state, actor_named, ended_with, turn_of, Runs, is_ended}
use Rattle.run_laws.proofs.Named.{same_self, same_equal, found_name}
use Rattle.thread_laws.specs.Executions.{LearnedEnd, learned_of, at_next_event, after_entries, clock_after, name_begun, with_named, names_begun, IsBeginning, Begins, IsAboveRun, IsJoinLearned, IsNext, IsWalkWith, Execution, final_state, final_stamp, IsExecution, Creation, with_creation, creations}
use Rattle.thread_laws.specs.Histories.{entries_on, left_by_history, AreAlike}
use Rattle.thread_laws.specs.Merging.{execution_named, entries_in_execution, IsLearnedOf, HasExecution, AllHaveExecutions, IsNamedBy, IsCreated, IsRootExecution, AreExecutions, IsBelowAll, IsNondecreasing, IsMerge, AreLegal}
use Rattle.thread_laws.specs.Laws.{ExecutionsAreARun}
use Rattle.thread_laws.proofs.Alike.{CellOn, alike_self, cells_go, cells_answer}
use Rattle.thread_laws.proofs.Turning.{IsLearned, IsJoinable, world_after, takes_turn, next_event_name, own_after, other_after, none_after, begun_as, begun_name, names_of, names_after}

-- ---- stamps

-- the last stamp of a walk is not below its clock
walk_rises : (i : Image) (learned : List LearnedEnd) (a : ActorState) (clock : ℕ) (es : List LogEntry) → IsWalkWith i learned a clock es → clock ≤ clock_after clock es
walk_rises i learned a clock [] w = omega arith
walk_rises i learned a clock (e ∷ es) w =
    let more = walk_rises i learned (takes i (at_next_event i learned a) e.event) e.stamp es w.1 in
    let above = w.0.above in
    omega (arith, more, above)

below_or : (stamp : ℕ) (e : LogEntry) (es own : List LogEntry) (t : Bool) → stamp ≤ e.stamp → IsBelowAll stamp own → IsBelowAll stamp (if t then e ∷ own else own)
below_or stamp e es own true le h = (le, h)
below_or stamp e es own false le h = h

-- what is below all is below those of one actor
below_own : (stamp : ℕ) (m : List ℕ) (es : List LogEntry) → IsBelowAll stamp es → IsBelowAll stamp (entries_of m es)
below_own stamp m [] h = tt
below_own stamp m (e ∷ es) h = below_or stamp e es (entries_of m es) (same e.actor m) h.0 (below_own stamp m es h.1)

-- an entry that names an actor is not below what is below all
named_above : (stamp : ℕ) (m : List ℕ) (low : ℕ) (es : List LogEntry) → IsBelowAll stamp es → IsNamedBy m low es → stamp ≤ low
named_above stamp m low [] h n = absurd n
named_above stamp m low (e ∷ es) h (inl n) = let is = n.1 in let le = h.0 in omega (arith, is, le)
named_above stamp m low (e ∷ es) h (inr n) = named_above stamp m low es h.1 n

all_above : (e : LogEntry) (es : List LogEntry) → IsNondecreasing (e ∷ es) → IsBelowAll e.stamp (e ∷ es)
all_above e es h = let same_stamp : e.stamp ≤ e.stamp = omega arith in (same_stamp, h.0)

-- ---- places

-- an actor at a place of its execution, with these entries to come
pub record IsOn (i : Image) (ls : List Execution) (l : Execution) (a : ActorState) (es : List LogEntry) : Type 0 where
  pub clock : ℕ
  pub walk : IsWalkWith i l.learned a clock es
  pub left : after_entries i l.learned a es ≡ final_state i l
  pub stamp : clock_after clock es ≡ final_stamp l
  pub begun : AllHaveExecutions ls (creations i l.learned a es)

-- one that has not begun: all its entries are to come, and one that names it
pub record IsToCome (m : List ℕ) (l : Execution) (own all : List LogEntry) : Type 0 where
  pub whole : own ≡ l.entries
  pub named : IsNamedBy m l.low all

abbrev pub IsAt : Image → List Execution → List LogEntry → List ℕ → Option ActorState → Option Execution → Type 0
IsAt i ls es m None None = entries_of m es ≡ []
IsAt i ls es m None (Some l) = IsToCome m l (entries_of m es) es
IsAt i ls es m (Some a) None = ⊥
IsAt i ls es m (Some a) (Some l) = IsOn i ls l a (entries_of m es)

pub record Ahead (i : Image) (left : CellName → Cells) (ls : List Execution) (w : WorldState) (es : List LogEntry) : Type 0 where
  pub image : w.image ≡ i
  pub rising : IsNondecreasing es
  pub actors : (m : List ℕ) → IsAt i ls es m (actor_named w.actors m) (execution_named ls m)
  pub cells : (x : CellName) → CellOn x (left x) w.cells (entries_on x es)

-- the first entry is of an actor, or it is not
first_of : (m : List ℕ) (e : LogEntry) (es : List LogEntry) (t : Bool) → same e.actor m ≡ t → entries_of m (e ∷ es) ≡ (if t then e ∷ entries_of m es else entries_of m es)
first_of m e es t is = ap (λ u. if u then e ∷ entries_of m es else entries_of m es) is

-- ---- who has ended

-- a execution whose last stamp is below the next entry has ended
over_at : (i : Image) (ls : List Execution) (es : List LogEntry) (m : List ℕ) (o : Option ActorState) (l : Execution) (s : ℕ) → IsExecution i l → IsBelowAll s es → final_stamp l < s → IsAt i ls es m o (Some l) → o ≡ Some (final_state i l)
over_at i ls es m None l s execution low less h =
    let rises = walk_rises i l.learned l.began l.low l.entries execution.walk in
    let above = named_above s m l.low es low h.named in
    absurd (omega (arith, rises, above, less))
over_at i ls es m (Some a) l s execution low less h = by_rest (entries_of m es) (below_own s m es low) h
  where
    by_rest : (own : List LogEntry) → IsBelowAll s own → IsOn i ls l a own → Some a ≡ Some (final_state i l)
    by_rest [] below on = ap (λ x. Some x) on.left
    by_rest (x ∷ xs) below on =
        let more = walk_rises i l.learned (takes i (at_next_event i l.learned a) x.event) x.stamp xs on.walk.1 in
        let is = on.stamp in
        let le = below.0 in
        absurd (omega (arith, more, is, le, less))

-- so what learned of it is so
learned_there : (i : Image) (left : CellName → Cells) (ls : List Execution) (w : WorldState) (es : List LogEntry) (m : List ℕ) (t : LearnedEnd) (s : ℕ) → AreExecutions i ls → Ahead i left ls w es → IsBelowAll s es → t.stamp < s → IsLearnedOf i ls m t
    → ended_with (actor_named w.actors m) ≡ Some (t.how, t.fuel)
learned_there i left ls w es m t s all h low less learned =
    let l = learned.execution in
    let at : IsAt i ls es m (actor_named w.actors m) (Some l) = subst (IsAt i ls es m (actor_named w.actors m)) learned.there (h.actors m) in
    let is = learned.stamp in
    let below : final_stamp l < s = omega (arith, is, less) in
    ap ended_with (over_at i ls es m (actor_named w.actors m) l s (all.each m l learned.there) low below at) ∙ learned.ended

-- what a execution learned of a number, if it has to be above that
some_learned : (learned : List LearnedEnd) (k s : ℕ) (o : Option LearnedEnd) → learned_of learned k ≡ o → IsSomeAnd o (λ t. t.stamp < s) → (t : LearnedEnd) × (learned_of learned k ≡ Some t) × (t.stamp < s)
some_learned learned k s None is h = absurd h
some_learned learned k s (Some t) is h = (t, is, h)

some_joined : (learned : List LearnedEnd) (k : ℕ) (how : End) (fuel s : ℕ) (o : Option LearnedEnd) → learned_of learned k ≡ o → IsSomeAnd o (λ t. (t.how ≡ how) × (t.fuel ≡ fuel) × (t.stamp < s))
    → (t : LearnedEnd) × (learned_of learned k ≡ Some t) × (t.how ≡ how) × (t.fuel ≡ fuel) × (t.stamp < s)
some_joined learned k how fuel s None is h = absurd h
some_joined learned k how fuel s (Some t) is h = (t, is, h.0, h.1, h.2)

-- ---- the next entry

-- the actor of the next entry, at a place of its execution
record IsNextDoer (i : Image) (ls : List Execution) (w : WorldState) (e : LogEntry) (es : List LogEntry) : Type 0 where
  actor : ActorState
  execution : Execution
  there : actor_named w.actors e.actor ≡ Some actor
  lived : execution_named ls e.actor ≡ Some execution
  on : IsOn i ls execution actor (e ∷ entries_of e.actor es)

next_doer : (i : Image) (left : CellName → Cells) (ls : List Execution) (w : WorldState) (e : LogEntry) (es : List LogEntry) → AreExecutions i ls → Ahead i left ls w (e ∷ es) → IsNextDoer i ls w e es
next_doer i left ls w e es all h = by_both (actor_named w.actors e.actor) (execution_named ls e.actor) refl refl (h.actors e.actor)
  where
    own : entries_of e.actor (e ∷ es) ≡ e ∷ entries_of e.actor es
    own = first_of e.actor e es true (same_self e.actor)

    by_both : (o : Option ActorState) (p : Option Execution) → actor_named w.actors e.actor ≡ o → execution_named ls e.actor ≡ p → IsAt i ls (e ∷ es) e.actor o p → IsNextDoer i ls w e es
    by_both None None there lived at = let f : e ∷ entries_of e.actor es ≡ [] = sym own ∙ at in absurd cc
    by_both None (Some l) there lived at =
        let walk : IsWalkWith i l.learned l.began l.low (e ∷ entries_of e.actor es) = subst (IsWalkWith i l.learned l.began l.low) (sym at.whole ∙ own) (all.each e.actor l lived).walk in
        let above = walk.0.above in
        let named = named_above e.stamp e.actor l.low (e ∷ es) (all_above e es h.rising) at.named in
        absurd (omega (arith, above, named))
    by_both (Some a) None there lived at = absurd at
    by_both (Some a) (Some l) there lived at = record { actor = a; execution = l; there = there; lived = lived; on = subst (IsOn i ls l a) own at }

-- ---- a step

record IsStep (i : Image) (left : CellName → Cells) (ls : List Execution) (w : WorldState) (e : LogEntry) (es : List LogEntry) : Type 0 where
  new : WorldState
  turn : turn_of w e.actor ≡ Some (record { event = e.event; world = new })
  ahead : Ahead i left ls new es
  names : names_of new.actors ≡ names_of w.actors ++ with_named (name_begun e.event) []

-- creations, the first one and the others
later_creations : (ls : List Execution) (o : Option ActorState) (s : ℕ) (bs : List Creation) → AllHaveExecutions ls (with_creation o s bs) → AllHaveExecutions ls bs
later_creations ls None s bs h = h
later_creations ls (Some c) s bs h = h.1

first_creation : (ls : List Execution) (o : Option ActorState) (s : ℕ) (bs : List Creation) (c : ActorState) → o ≡ Some c → AllHaveExecutions ls (with_creation o s bs) → HasExecution ls (record { began = c; stamp = s })
first_creation ls o s bs c is h = let all : AllHaveExecutions ls (with_creation (Some c) s bs) = subst (λ p. AllHaveExecutions ls (with_creation p s bs)) is h in all.0

-- an actor begins under a name, or none does
record IsBegunAs (o : Option ActorState) (m : List ℕ) : Type 0 where
  child : ActorState
  is : o ≡ Some child
  as_ : begun_as o m ≡ Some child
  name : child.name ≡ m

begun_or : (o : Option ActorState) (m : List ℕ) → (begun_as o m ≡ None) ⊎ IsBegunAs o m
begun_or None m = inl refl
begun_or (Some c) m = by_name (same c.name m) refl
  where
    by_name : (t : Bool) → same c.name m ≡ t → (begun_as (Some c) m ≡ None) ⊎ IsBegunAs (Some c) m
    by_name true e = inr (record { child = c; is = refl; as_ = ap (λ u. if u then Some c else None) e; name = same_equal c.name m e })
    by_name false e = inl (ap (λ u. if u then Some c else None) e)

-- a execution at its beginning
begins_on : (i : Image) (ls : List Execution) (m : List ℕ) (l : Execution) → AreExecutions i ls → execution_named ls m ≡ Some l → IsOn i ls l l.began l.entries
begins_on i ls m l all lived = record { clock = l.low; walk = (all.each m l lived).walk; left = refl; stamp = refl; begun = all.begun m l lived }

-- what is said of a name by what is there and which execution it has
at_as : (i : Image) (ls : List Execution) (es : List LogEntry) (m : List ℕ) (o p : Option ActorState) (l k : Option Execution) → o ≡ p → l ≡ k → IsAt i ls es m p k → IsAt i ls es m o l
at_as i ls es m o p l k a b h = subst (λ x. IsAt i ls es m x l) (sym a) (subst (λ x. IsAt i ls es m p x) (sym b) h)

step_here : (left : CellName → Cells) (ls : List Execution) (w : WorldState) (e : LogEntry) (es : List LogEntry) → AreExecutions w.image ls → Ahead w.image left ls w (e ∷ es) → IsStep w.image left ls w e es
step_here left ls w e es all h = record {
  new = new;
  turn = ap (turn_of w) (sym name) ∙ takes_turn w l.learned a e.event there learned_ next.asked (cells_answer left w.cells e es h.cells) joins;
  ahead = record { image = refl; rising = h.rising.1; actors = after; cells = cells_go left w.cells e es h.cells };
  names = names_after w a b e.event there bname next.begins;
}
  where
    d : IsNextDoer w.image ls w e es
    d = next_doer w.image left ls w e es all h

    a : ActorState
    a = d.actor

    l : Execution
    l = d.execution

    b : ActorState
    b = at_next_event w.image l.learned a

    next : IsNext w.image l.learned a d.on.clock e
    next = d.on.walk.0

    name : a.name ≡ e.actor
    name = found_name w.actors e.actor a d.there

    there : actor_named w.actors a.name ≡ Some a
    there = ap (actor_named w.actors) name ∙ d.there

    low : IsBelowAll e.stamp (e ∷ es)
    low = all_above e es h.rising

    learned_end : (k : ℕ) (t : LearnedEnd) → learned_of l.learned k ≡ Some t → t.stamp < e.stamp → ended_with (actor_named w.actors (child_name e.actor k)) ≡ Some (t.how, t.fuel)
    learned_end k t is less = learned_there w.image left ls w (e ∷ es) (child_name e.actor k) t e.stamp all h low less (all.learned e.actor l d.lived k t is)

    run_learned : (p : Phase) → IsAboveRun l.learned p e.stamp → IsLearned w a l.learned p
    run_learned (phase.Waiting k) above =
        let s = some_learned l.learned k e.stamp (learned_of l.learned k) refl above in
        (s.0, s.1, subst (λ n. ended_with (actor_named w.actors (child_name n k)) ≡ Some (s.0.how, s.0.fuel)) (sym name) (learned_end k s.0 s.1 s.2))
    run_learned p above = tt

    learned_ : IsLearned w a l.learned a.phase
    learned_ = run_learned a.phase next.run

    bname : b.name ≡ a.name
    bname = next_event_name w l.learned a learned_

    join_learned : (ev : Event) → IsJoinLearned l.learned ev e.stamp → IsJoinable w b ev
    join_learned (event.Join k how fuel) above =
        let s = some_joined l.learned k how fuel e.stamp (learned_of l.learned k) refl above in
        subst (λ n. ended_with (actor_named w.actors (child_name n k)) ≡ Some (how, fuel)) (sym (bname ∙ name))
        (learned_end k s.0 s.1 s.4 ∙ (ap (λ x. Some (x, s.0.fuel)) s.2 ∙ ap (λ x. Some (how, x)) s.3))
    join_learned ev above = tt

    joins : IsJoinable w b e.event
    joins = join_learned e.event next.child

    new : WorldState
    new = world_after w a b e.event

    x : ActorState
    x = takes w.image b e.event

    own_now : actor_named new.actors e.actor ≡ Some x
    own_now = ap (actor_named new.actors) (sym name) ∙ own_after w a b e.event there bname

    own_on : IsOn w.image ls l x (entries_of e.actor es)
    own_on = record {
      clock = e.stamp;
      walk = d.on.walk.1;
      left = d.on.left;
      stamp = d.on.stamp;
      begun = later_creations ls (actor_begun w.image b e.event) e.stamp (creations w.image l.learned x (entries_of e.actor es)) d.on.begun;
    }

    begun_execution : (c : ActorState) → actor_begun w.image b e.event ≡ Some c → HasExecution ls (record { began = c; stamp = e.stamp })
    begun_execution c is = first_creation ls (actor_begun w.image b e.event) e.stamp (creations w.image l.learned x (entries_of e.actor es)) c is d.on.begun

    -- an actor of another name, and its entries to come
    others : (m : List ℕ) (o : Option ActorState) (p : Option Execution) → same a.name m ≡ false → entries_of m (e ∷ es) ≡ entries_of m es → actor_named w.actors m ≡ o → execution_named ls m ≡ p → IsAt w.image ls (e ∷ es) m o p
        → IsAt w.image ls es m (actor_named new.actors m) p
    others m None None apart same_entries was lived at = by_begun (begun_or (actor_begun w.image b e.event) m)
      where
        now : actor_named new.actors m ≡ begun_as (actor_begun w.image b e.event) m
        now = none_after w a b e.event m bname apart was

        by_begun : (begun_as (actor_begun w.image b e.event) m ≡ None) ⊎ IsBegunAs (actor_begun w.image b e.event) m → IsAt w.image ls es m (actor_named new.actors m) None
        by_begun (inl none) = at_as w.image ls es m (actor_named new.actors m) None None None (now ∙ none) refl (sym same_entries ∙ at)
        by_begun (inr c) =
            let has = begun_execution c.child c.is in
            let f : None ≡ Some has.execution = sym lived ∙ (ap (execution_named ls) (sym c.name) ∙ has.there) in
            absurd cc
    others m None (Some k) apart same_entries was lived at = by_begun (begun_or (actor_begun w.image b e.event) m)
      where
        now : actor_named new.actors m ≡ begun_as (actor_begun w.image b e.event) m
        now = none_after w a b e.event m bname apart was

        by_named : (begun_as (actor_begun w.image b e.event) m ≡ None) → IsNamedBy m k.low (e ∷ es) → IsNamedBy m k.low es
        by_named none (inr n) = n
        by_named none (inl n) =
            let begins : IsBeginning w.image b e.event m = subst (Begins w.image b e.event) n.0 next.begins in
            let c = begins.child in
            let cname : c.name ≡ m = begun_name w.image b e.event c m begins.begun n.0 in
            let is : begun_as (actor_begun w.image b e.event) m ≡ Some c = ap (λ o. begun_as o m) begins.begun ∙ ap (λ u. if u then Some c else None) (ap (λ y. same y m) cname ∙ same_self m) in
            let f : None ≡ Some c = sym none ∙ is in
            absurd cc

        by_begun : (begun_as (actor_begun w.image b e.event) m ≡ None) ⊎ IsBegunAs (actor_begun w.image b e.event) m → IsAt w.image ls es m (actor_named new.actors m) (Some k)
        by_begun (inl none) = at_as w.image ls es m (actor_named new.actors m) None (Some k) (Some k) (now ∙ none) refl (record { whole = sym same_entries ∙ at.whole; named = by_named none at.named })
        by_begun (inr c) =
            let has = begun_execution c.child c.is in
            let f : Some k ≡ Some has.execution = sym lived ∙ (ap (execution_named ls) (sym c.name) ∙ has.there) in
            let one : k ≡ has.execution = cc in
            let began : k.began ≡ c.child = ap (λ (y : Execution). y.began) one ∙ has.began in
            let on : IsOn w.image ls k c.child k.entries = subst (λ y. IsOn w.image ls k y k.entries) began (begins_on w.image ls m k all lived) in
            at_as w.image ls es m (actor_named new.actors m) (Some c.child) (Some k) (Some k) (now ∙ c.as_) refl (subst (IsOn w.image ls k c.child) (sym at.whole ∙ same_entries) on)
    others m (Some y) None apart same_entries was lived at = absurd at
    others m (Some y) (Some k) apart same_entries was lived at =
        at_as w.image ls es m (actor_named new.actors m) (Some y) (Some k) (Some k) (other_after w a b e.event m y bname apart was) refl (subst (IsOn w.image ls k y) same_entries at)

    by_name : (m : List ℕ) (t : Bool) → same e.actor m ≡ t → IsAt w.image ls es m (actor_named new.actors m) (execution_named ls m)
    by_name m true is =
        subst (λ n. IsAt w.image ls es n (actor_named new.actors n) (execution_named ls n)) (same_equal e.actor m is)
        (at_as w.image ls es e.actor (actor_named new.actors e.actor) (Some x) (execution_named ls e.actor) (Some l) own_now d.lived own_on)
    by_name m false is = others m (actor_named w.actors m) (execution_named ls m) (ap (λ n. same n m) name ∙ is) (first_of m e es false is) refl refl (h.actors m)

    after : (m : List ℕ) → IsAt w.image ls es m (actor_named new.actors m) (execution_named ls m)
    after m = by_name m (same e.actor m) refl

step : (i : Image) (left : CellName → Cells) (ls : List Execution) (w : WorldState) (e : LogEntry) (es : List LogEntry) → AreExecutions i ls → Ahead i left ls w (e ∷ es) → IsStep i left ls w e es
step i left ls w e es all h = subst (λ j. AreExecutions j ls → Ahead j left ls w (e ∷ es) → IsStep j left ls w e es) h.image (step_here left ls w e es) all h

-- ---- all of them

record IsRest (i : Image) (left : CellName → Cells) (ls : List Execution) (w : WorldState) (es : List LogEntry) : Type 0 where
  last : WorldState
  run : Runs w (turns_of es) last
  names : names_of last.actors ≡ names_of w.actors ++ names_begun es
  ahead : Ahead i left ls last []

-- a name more, and then others
more_names : (n : Option (List ℕ)) (ns ms : List (List ℕ)) → (ns ++ with_named n []) ++ ms ≡ ns ++ with_named n ms
more_names None ns ms = ap (λ xs. xs ++ ms) (append-nil ns)
more_names (Some n) ns ms = append_assoc ns (n ∷ []) ms

merge_from : (i : Image) (left : CellName → Cells) (ls : List Execution) (w : WorldState) (es : List LogEntry) → AreExecutions i ls → Ahead i left ls w es → IsRest i left ls w es
merge_from i left ls w [] all h = record { last = w; run = refl; names = sym (append-nil (names_of w.actors)); ahead = h }
merge_from i left ls w (e ∷ es) all h =
    let s = step i left ls w e es all h in
    let r = merge_from i left ls s.new es all s.ahead in
    record {
      last = r.last;
      run = (s.new, s.turn, r.run);
      names = r.names ∙ (ap (λ ns. ns ++ names_begun es) s.names ∙ more_names (name_begun e.event) (names_of w.actors) (names_begun es));
      ahead = r.ahead;
    }

-- ---- the beginning

named_or : (m : List ℕ) (low : ℕ) (e : LogEntry) (own es : List LogEntry) (t : Bool) → IsNamedBy m low (if t then e ∷ own else own) → (IsNamedBy m low own → IsNamedBy m low es)
    → ((name_begun e.event ≡ Some m) × (e.stamp ≡ low)) ⊎ IsNamedBy m low es
named_or m low e own es true (inl n) others = inl n
named_or m low e own es true (inr n) others = inr (others n)
named_or m low e own es false n others = inr (others n)

-- who is named by an entry of one actor is named by one of all
named_in : (m : List ℕ) (low : ℕ) (n : List ℕ) (es : List LogEntry) → IsNamedBy m low (entries_of n es) → IsNamedBy m low es
named_in m low n [] h = h
named_in m low n (e ∷ es) h = named_or m low e (entries_of n es) es (same e.actor n) h (named_in m low n es)

found_execution : (ls : List Execution) (m : List ℕ) (l : Execution) → execution_named ls m ≡ Some l → l.began.name ≡ m
found_execution [] m l e = absurd cc
found_execution (k ∷ ks) m l e = by_name (same k.began.name m) refl e (found_execution ks m l)
  where
    by_name : (t : Bool) → same k.began.name m ≡ t → (if t then Some k else execution_named ks m) ≡ Some l → (execution_named ks m ≡ Some l → l.began.name ≡ m) → l.began.name ≡ m
    by_name true is h others = let one : k ≡ l = cc in ap (λ (y : Execution). y.began.name) (sym one) ∙ same_equal k.began.name m is
    by_name false is h others = others h

named_root : (i : Image) → (root i).name ≡ root_name
unfolding root
named_root i = refl

-- as a run begins the root is at the beginning of its execution, and all others are to come
-- what the entries leave of each cell
abbrev left_by_entries : Image → List LogEntry → CellName → Cells
left_by_entries i es x = left_by_history i (entries_on x es)

opens : (i : Image) (ls : List Execution) (es : List LogEntry) → AreExecutions i ls → IsMerge ls es → AreLegal i es → Ahead i (left_by_entries i es) ls (initial_state i) es
opens i ls es all merge legal = record {
  image = refl;
  rising = merge.rising;
  actors = λ m. by_name m (same root_name m) refl;
  cells = λ x. record { replayed = opening_cells i; clock = 0; alike = alike_self x (opening_cells i); replay = legal x; leads = refl };
}
  where
    there : (m : List ℕ) (t : Bool) → same root_name m ≡ t → actor_named (initial_state i).actors m ≡ (if t then Some (root i) else None)
    there m t is = ap (λ u. if u then Some (root i) else None) (ap (λ n. same n m) (named_root i) ∙ is)

    root_on : IsOn i ls all.root_ (root i) (entries_of root_name es)
    root_on =
        subst (IsOn i ls all.root_ (root i)) (sym (merge.each root_name ∙ ap entries_in_execution all.root_there))
        (subst (λ y. IsOn i ls all.root_ y all.root_.entries) all.root_begins.began (begins_on i ls root_name all.root_ all all.root_there))

    is_root : (m : List ℕ) (l : Execution) → execution_named ls m ≡ Some l → IsRootExecution i l → root_name ≡ m
    is_root m l lived r = sym (ap (λ (y : ActorState). y.name) r.began ∙ named_root i) ∙ found_execution ls m l lived

    to_come : (m : List ℕ) (l : Execution) → same root_name m ≡ false → execution_named ls m ≡ Some l → IsRootExecution i l ⊎ IsCreated ls m l.low → IsNamedBy m l.low es
    to_come m l apart lived (inl r) = absurd (true≢false (sym (ap (same root_name) (sym (is_root m l lived r)) ∙ same_self root_name) ∙ apart))
    to_come m l apart lived (inr b) = named_in m l.low b.parent es (subst (IsNamedBy m l.low) (sym (merge.each b.parent ∙ ap entries_in_execution b.there)) b.entry)

    none_yet : (m : List ℕ) (p : Option Execution) → same root_name m ≡ false → execution_named ls m ≡ p → IsAt i ls es m None p
    none_yet m None apart lived = merge.each m ∙ ap entries_in_execution lived
    none_yet m (Some l) apart lived = record { whole = merge.each m ∙ ap entries_in_execution lived; named = to_come m l apart lived (all.origin m l lived) }

    by_name : (m : List ℕ) (t : Bool) → same root_name m ≡ t → IsAt i ls es m (actor_named (initial_state i).actors m) (execution_named ls m)
    by_name m true is =
        subst (λ n. IsAt i ls es n (actor_named (initial_state i).actors n) (execution_named ls n)) (same_equal root_name m is)
        (at_as i ls es root_name (actor_named (initial_state i).actors root_name) (Some (root i)) (execution_named ls root_name) (Some all.root_) (there root_name true (same_self root_name)) all.root_there root_on)
    by_name m false is = at_as i ls es m (actor_named (initial_state i).actors m) None (execution_named ls m) (execution_named ls m) (there m false is) refl (none_yet m (execution_named ls m) is refl)

-- ---- the end

-- where no entry is to come, each execution is over
over : (i : Image) (ls : List Execution) (m : List ℕ) (o : Option ActorState) (l : Execution) → IsAt i ls [] m o (Some l) → o ≡ Some (final_state i l)
over i ls m None l h = absurd h.named
over i ls m (Some a) l h = ap (λ x. Some x) h.left

nobody_else : (i : Image) (ls : List Execution) (m : List ℕ) (o : Option ActorState) → IsAt i ls [] m o None → o ≡ None
nobody_else i ls m None h = refl
nobody_else i ls m (Some a) h = absurd h

pub executions_are_a_run : ExecutionsAreARun
executions_are_a_run i ls es all merge legal =
    let r = merge_from i (left_by_entries i es) ls (initial_state i) es all (opens i ls es all merge legal) in
    let same_cell : (x : CellName) (c : CellOn x (left_by_entries i es x) r.last.cells []) → AreAlike x r.last.cells (left_by_entries i es x) = λ x c. subst (AreAlike x r.last.cells) c.leads c.alike in
    let ended : (m : List ℕ) (l : Execution) → execution_named ls m ≡ Some l → actor_named r.last.actors m ≡ Some (final_state i l) =
    λ m l lived. over i ls m (actor_named r.last.actors m) l (subst (IsAt i ls [] m (actor_named r.last.actors m)) lived (r.ahead.actors m)) in
    record {
      last = r.last;
      run = r.run;
      complete = ap is_ended (ended root_name all.root_ all.root_there) ∙ (all.each root_name all.root_ all.root_there).ended;
      actors = ended;
      names = r.names ∙ ap (λ n. n ∷ names_begun es) (named_root i);
      image = r.ahead.image;
      cells = λ x. same_cell x (r.ahead.cells x);
      others = λ m lived. nobody_else i ls m (actor_named r.last.actors m) (subst (IsAt i ls [] m (actor_named r.last.actors m)) lived (r.ahead.actors m));
    }
