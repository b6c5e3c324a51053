-- In every run what a log knows was made in that run, as it says, and it knows all that was made.
use Rattle.std.proofs.Common.{◌≡◌, inl, inr, ℕ, zero, suc, Bool, true, false, List, [], ◌∷◌, length, map, refl, sym, ap, subst, ◌∙◌, true≢false, arith}
use Rattle.std.proofs.lemmas.Bool.{eqb-true}
use Rattle.std.specs.Prelude.{Some, None, is_some, ◌⊎◌, ◌<◌, ◌==◌}
use Rattle.std.specs.List.{slice_index_or}
use Rattle.wedge_base.specs.Images.{Image}
use Rattle.wedge_base.specs.Maps.{at, with}
use Rattle.wedge_base.specs.declared.rights.StreamKind.{StreamKind}
use Rattle.wedge_events.specs.declared.cells.SlotAsk.TheVariants as slot_ask
use Rattle.wedge_events.specs.declared.cells.SlotReply.TheVariants as slot_reply
use Rattle.wedge_events.specs.declared.cells.StreamAsk.TheVariants as stream_ask
use Rattle.wedge_events.specs.declared.cells.StreamReply.TheVariants as stream_reply
use Rattle.wedge_events.specs.declared.events.Event.{Event}
use Rattle.wedge_events.specs.declared.events.Event.TheVariants as event
use Rattle.wedge_events.specs.declared.events.Turn.{Turn}
use Rattle.machine.specs.Actors.{ActorState}
use Rattle.machine.specs.Local.{rest}
use Rattle.machine.specs.Opening.{FileOpening}
use Rattle.machine.specs.Worlds.{WorldState, initial_state, at_rest, resumed, Runs}
use Rattle.machine.specs.declared.phase.Phase.TheVariants as phase
use Rattle.run_laws.proofs.Bounding.{with_same, with_other}
use Rattle.run_laws.proofs.Happening.{Happens}
use Rattle.run_laws.proofs.Settling.{AllReady, turn_happens, turn_ready, opening_ready}
use Rattle.run_laws.proofs.Turns.{Turned, turn_from}
use Rattle.run_notes.specs.declared.items.Makings.{Makings}
use Rattle.run_notes.specs.declared.items.Origin.{Origin}
use Rattle.run_log.specs.Logs.{Log}
use Rattle.run_log.specs.Logging.{opening_log, log_turn, log_from}
use Rattle.run_log.specs.MakerLaws.{HasTaken, IsMadeBy, IsOpenedAs, HasEvent, MakersAreOfTheRun}
use Rattle.run_log.proofs.KnownItems.{IsMade, HasPath}
use Rattle.run_log.proofs.KnownTurns.{OpensNoStream, Makes, MakesNone, MakesTag, MakesFile, event_makes, keeps_made, keeps_path, makings_of_turn}
use Rattle.run_log.proofs.LogTurns.{logs_turn}
use Rattle.run_log.proofs.WithinNotes.{first_logged, turn_aligned}

-- ---- an event

-- a tag that is known after it was known before, or is opened by it
abbrev OpensTag : ActorState → Event → ℕ → Origin → Type 0
OpensTag b e tag o = (slot : ℕ) × (pages : ℕ) × (e ≡ event.Slot slot (slot_ask.Open tag pages) slot_reply.Opened) × (o ≡ record { compartment = b.compartment; pc = b.hart.pc })

event_tags : (i : Image) (b : ActorState) (m : Makings) (e : Event) (n : Makings) (tag : ℕ) (o : Origin) → Makes i b m e n → at n.tags tag ≡ Some o → (at m.tags tag ≡ Some o) ⊎ OpensTag b e tag o
event_tags i b m e n tag o (MakesNone is none quiet) there = inl (subst (λ (x : Makings). at x.tags tag ≡ Some o) is there)
event_tags i b m e n tag o (MakesFile fd opening at_ file is_event is) there = inl (subst (λ (x : Makings). at x.tags tag ≡ Some o) is there)
event_tags i b m e n tag o (MakesTag slot t pages at_ quiet is_event is) there = by_key (t == tag) refl
  where
    own : Origin
    own = record { compartment = b.compartment; pc = b.hart.pc }

    now : at (with m.tags t own) tag ≡ Some o
    now = subst (λ (x : Makings). at x.tags tag ≡ Some o) is there

    by_key : (u : Bool) → (t == tag) ≡ u → (at m.tags tag ≡ Some o) ⊎ OpensTag b e tag o
    by_key true same_tag =
        let one : t ≡ tag = eqb-true t tag same_tag in
        let both : Some own ≡ Some o = sym (with_same m.tags t own) ∙ (ap (at (with m.tags t own)) one ∙ now) in
        let its : own ≡ o = cc in
        inr (slot, pages, is_event ∙ ap (λ k. event.Slot slot (slot_ask.Open k pages) slot_reply.Opened) one, sym its)
    by_key false apart = inl (sym (with_other m.tags t own tag (λ one. true≢false (sym (itself t) ∙ (ap (λ k. t == k) (sym one) ∙ apart)))) ∙ now)
      where
        itself : (k : ℕ) → (k == k) ≡ true
        itself k = grind arith

-- and so is the path of a descriptor
abbrev OpensPath : ActorState → Event → ℕ → List ℕ → Type 0
OpensPath b e fd path = (o : FileOpening) × (b.phase ≡ phase.OpeningFile o) × (e ≡ event.Fd fd (stream_ask.Open o.kind o.bytes) stream_reply.Opened) × (path ≡ o.path)

event_files : (i : Image) (b : ActorState) (m : Makings) (e : Event) (n : Makings) (fd : ℕ) (path : List ℕ) → Makes i b m e n → at n.files fd ≡ Some path → (at m.files fd ≡ Some path) ⊎ OpensPath b e fd path
event_files i b m e n fd path (MakesNone is none quiet) there = inl (subst (λ (x : Makings). at x.files fd ≡ Some path) is there)
event_files i b m e n fd path (MakesTag slot tag pages at_ quiet is_event is) there = inl (subst (λ (x : Makings). at x.files fd ≡ Some path) is there)
event_files i b m e n fd path (MakesFile f o at_ file is_event is) there = by_key (f == fd) refl
  where
    now : at (with m.files f o.path) fd ≡ Some path
    now = subst (λ (x : Makings). at x.files fd ≡ Some path) is there

    by_key : (u : Bool) → (f == fd) ≡ u → (at m.files fd ≡ Some path) ⊎ OpensPath b e fd path
    by_key true same_fd =
        let one : f ≡ fd = eqb-true f fd same_fd in
        let both : Some o.path ≡ Some path = sym (with_same m.files f o.path) ∙ (ap (at (with m.files f o.path)) one ∙ now) in
        let own : o.path ≡ path = cc in
        inr (o, at_, is_event ∙ ap (λ k. event.Fd k (stream_ask.Open o.kind o.bytes) stream_reply.Opened) one, sym own)
    by_key false apart = inl (sym (with_other m.files f o.path fd (λ one. true≢false (sym (itself f) ∙ (ap (λ k. f == k) (sym one) ∙ apart)))) ∙ now)
      where
        itself : (k : ℕ) → (k == k) ≡ true
        itself k = grind arith

-- what an event opens is known after it
opened_tag : (i : Image) (b : ActorState) (m : Makings) (e : Event) (slot tag pages : ℕ) → e ≡ event.Slot slot (slot_ask.Open tag pages) slot_reply.Opened → IsMade (makings_of_turn i m b e) tag
opened_tag i b m e slot tag pages is =
    let own : Origin = record { compartment = b.compartment; pc = b.hart.pc } in
    subst (λ y. IsMade (makings_of_turn i m b y) tag) (sym is) (own, with_same m.tags tag own)

opened_file : (i : Image) (b : ActorState) (m : Makings) (e : Event) (n : Makings) (fd : ℕ) (k : StreamKind) (bytes : List ℕ) → Makes i b m e n → e ≡ event.Fd fd (stream_ask.Open k bytes) stream_reply.Opened → HasPath n fd
opened_file i b m e n fd k bytes (MakesNone is none quiet) opens = absurd (subst OpensNoStream opens quiet)
opened_file i b m e n fd k bytes (MakesTag slot t pages at_ quiet is_event is) opens = absurd (subst OpensNoStream opens quiet)
opened_file i b m e n fd k bytes (MakesFile f o at_ file is_event is) opens =
    let both : event.Fd f (stream_ask.Open o.kind o.bytes) stream_reply.Opened ≡ event.Fd fd (stream_ask.Open k bytes) stream_reply.Opened = sym is_event ∙ opens in
    let same_fd : f ≡ fd = cc in
    subst (λ (x : Makings). HasPath x fd) (sym is) (o.path, ap (at (with m.files f o.path)) (sym same_fd) ∙ with_same m.files f o.path)

-- ---- a turn

record TurnMakes (w : WorldState) (l : Log) (name : List ℕ) (e : Event) (new : WorldState) (t : Turned w name e new) : Type 0 where
  tags : (tag : ℕ) (o : Origin) → at (log_turn w l name e).makings.tags tag ≡ Some o → (at l.makings.tags tag ≡ Some o) ⊎ OpensTag (at_rest w t.actor) e tag o
  files : (fd : ℕ) (path : List ℕ) → at (log_turn w l name e).makings.files fd ≡ Some path → (at l.makings.files fd ≡ Some path) ⊎ OpensPath (at_rest w t.actor) e fd path
  keeps_tags : (tag : ℕ) → IsMade l.makings tag → IsMade (log_turn w l name e).makings tag
  keeps_paths : (fd : ℕ) → HasPath l.makings fd → HasPath (log_turn w l name e).makings fd
  opened_tags : (slot tag pages : ℕ) → e ≡ event.Slot slot (slot_ask.Open tag pages) slot_reply.Opened → IsMade (log_turn w l name e).makings tag
  opened_files : (fd : ℕ) (k : StreamKind) (bytes : List ℕ) → e ≡ event.Fd fd (stream_ask.Open k bytes) stream_reply.Opened → HasPath (log_turn w l name e).makings fd

turn_makes : (w : WorldState) (l : Log) (name : List ℕ) (e : Event) (new : WorldState) → AllReady w → length l.chains ≡ length w.actors → (t : Turned w name e new) → TurnMakes w l name e new t
turn_makes w l name e new all aligned t =
    let i = w.image in
    let r = at_rest w t.actor in
    let p = logs_turn w l name e new t aligned in
    let happens : Happens (resumed w t.actor) r e = subst (λ y. Happens (resumed w t.actor) y e) (ap (rest i) t.is) (turn_happens w name e new all t) in
    let is : (log_turn w l name e).makings ≡ makings_of_turn i l.makings r e = ap (λ (x : Log). x.makings) p.is in
    let makes : Makes i r l.makings e (makings_of_turn i l.makings r e) = event_makes (resumed w t.actor) r e l.makings happens in
    record {
      tags = λ tag o there. event_tags i r l.makings e (makings_of_turn i l.makings r e) tag o makes (subst (λ (m : Makings). at m.tags tag ≡ Some o) is there);
      files = λ fd path there. event_files i r l.makings e (makings_of_turn i l.makings r e) fd path makes (subst (λ (m : Makings). at m.files fd ≡ Some path) is there);
      keeps_tags = λ tag made. subst (λ (m : Makings). IsMade m tag) (sym is) (keeps_made i r l.makings e (makings_of_turn i l.makings r e) tag makes made);
      keeps_paths = λ fd known. subst (λ (m : Makings). HasPath m fd) (sym is) (keeps_path i r l.makings e (makings_of_turn i l.makings r e) fd makes known);
      opened_tags = λ slot tag pages opens. subst (λ (m : Makings). IsMade m tag) (sym is) (opened_tag i r l.makings e slot tag pages opens);
      opened_files = λ fd k bytes opens. subst (λ (m : Makings). HasPath m fd) (sym is) (opened_file i r l.makings e (makings_of_turn i l.makings r e) fd k bytes makes opens);
    }

-- ---- a run

taken_now : (old mid : WorldState) (t : Turn) (ts : List Turn) (e : Event) (p : Turned old t.actor t.event mid) → t.event ≡ e → HasTaken old (t ∷ ts) e (at_rest old p.actor)
taken_now old mid t ts e p is = record { before = []; after = ts; turn = t; split = refl; event = is; world = old; reached = refl; actor = p.actor; named = p.named; rests = refl }

taken_later : (old : WorldState) (t : Turn) (ts : List Turn) (w : WorldState) (run : Runs old (t ∷ ts) w) (e : Event) (b : ActorState) → HasTaken run.0 ts e b → HasTaken old (t ∷ ts) e b
taken_later old t ts w run e b h = record {
  before = t ∷ h.before;
  after = h.after;
  turn = h.turn;
  split = ap (λ us. t ∷ us) h.split;
  event = h.event;
  world = h.world;
  reached = (run.0, run.1, h.reached);
  actor = h.actor;
  named = h.named;
  rests = h.rests;
}

none_has : (e : Event) → HasEvent [] e → ⊥
none_has e h = (let lt = h.1 in omega (arith, lt))

first_or_later : (t : Turn) (ts : List Turn) (e : Event) → HasEvent (t ∷ ts) e → (t.event ≡ e) ⊎ HasEvent ts e
first_or_later t ts e h = by_index h.0 h.1 h.2
  where
    by_index : (k : ℕ) → k < length (t.event ∷ map (λ u. u.event) ts) → slice_index_or (t.event ∷ map (λ u. u.event) ts) k e ≡ e → (t.event ≡ e) ⊎ HasEvent ts e
    by_index zero lt is = inl is
    by_index (suc k) lt is = inr (k, omega (arith, lt), is)

record RunMakes (old : WorldState) (l : Log) (turns : List Turn) (m : Makings) : Type 0 where
  tags : (tag : ℕ) (o : Origin) → at m.tags tag ≡ Some o → (at l.makings.tags tag ≡ Some o) ⊎ IsMadeBy old turns tag o
  files : (fd : ℕ) (path : List ℕ) → at m.files fd ≡ Some path → (at l.makings.files fd ≡ Some path) ⊎ IsOpenedAs old turns fd path
  keeps_tags : (tag : ℕ) → IsMade l.makings tag → IsMade m tag
  keeps_paths : (fd : ℕ) → HasPath l.makings fd → HasPath m fd
  opened_tags : (slot tag pages : ℕ) → HasEvent turns (event.Slot slot (slot_ask.Open tag pages) slot_reply.Opened) → IsMade m tag
  opened_files : (fd : ℕ) (k : StreamKind) (bytes : List ℕ) → HasEvent turns (event.Fd fd (stream_ask.Open k bytes) stream_reply.Opened) → HasPath m fd

run_makes : (old : WorldState) (l : Log) (turns : List Turn) (w : WorldState) → AllReady old → length l.chains ≡ length old.actors → Runs old turns w → RunMakes old l turns (log_from old l (map (λ t. t.actor) turns)).makings
unfolding log_from
run_makes old l [] w all aligned run = record {
  tags = λ tag o there. inl there;
  files = λ fd path there. inl there;
  keeps_tags = λ tag made. made;
  keeps_paths = λ fd known. known;
  opened_tags = λ slot tag pages h. absurd (none_has _ h);
  opened_files = λ fd k bytes h. absurd (none_has _ h);
}
run_makes old l (t ∷ ts) w all aligned run =
    let p = turn_from old t.actor t.event run.0 run.1 in
    let one = turn_makes old l t.actor t.event run.0 all aligned p in
    let more = run_makes run.0 (log_turn old l t.actor t.event) ts w (turn_ready old t.actor t.event run.0 all run.1) (turn_aligned old l t.actor t.event run.0 run.1 aligned) run.2 in
    let is = ap (λ (x : Log). x.makings) (first_logged old run.0 l t.actor t.event (map (λ (u : Turn). u.actor) ts) run.1) in
    record {
      tags = λ tag o there. elim (more.tags tag o (subst (λ (m : Makings). at m.tags tag ≡ Some o) is there)) [
        | inr later ↦ inr (record { slot = later.slot; pages = later.pages; maker = later.maker; taken = taken_later old t ts w run _ later.maker later.taken; is = later.is })
        | inl now ↦ elim (one.tags tag o now) [
          | inl before ↦ inl before
          | inr opens ↦ inr (record { slot = opens.0; pages = opens.1; maker = at_rest old p.actor; taken = taken_now old run.0 t ts _ p opens.2; is = opens.3 })
        ]
      ];
      files = λ fd path there. elim (more.files fd path (subst (λ (m : Makings). at m.files fd ≡ Some path) is there)) [
        | inr later ↦ inr (record { opener = later.opener; opening = later.opening; at = later.at; taken = taken_later old t ts w run _ later.opener later.taken; is = later.is })
        | inl now ↦ elim (one.files fd path now) [
          | inl before ↦ inl before
          | inr opens ↦ inr (record { opener = at_rest old p.actor; opening = opens.0; at = opens.1; taken = taken_now old run.0 t ts _ p opens.2; is = opens.3 })
        ]
      ];
      keeps_tags = λ tag made. subst (λ (m : Makings). IsMade m tag) (sym is) (more.keeps_tags tag (one.keeps_tags tag made));
      keeps_paths = λ fd known. subst (λ (m : Makings). HasPath m fd) (sym is) (more.keeps_paths fd (one.keeps_paths fd known));
      opened_tags = λ slot tag pages h. subst (λ (m : Makings). IsMade m tag) (sym is) (elim (first_or_later t ts _ h) [
        | inl now ↦ more.keeps_tags tag (one.opened_tags slot tag pages now)
        | inr later ↦ more.opened_tags slot tag pages later
      ]);
      opened_files = λ fd k bytes h. subst (λ (m : Makings). HasPath m fd) (sym is) (elim (first_or_later t ts _ h) [
        | inl now ↦ more.keeps_paths fd (one.opened_files fd k bytes now)
        | inr later ↦ more.opened_files fd k bytes later
      ]);
    }

pub makers_known : MakersAreOfTheRun
makers_known i turns w run =
    let all = run_makes (initial_state i) (opening_log i) turns w (opening_ready i) refl run in
    record {
      tags = λ tag o there. elim (all.tags tag o there) [ inl none ↦ absurd (let f : None ≡ Some o = none in cc) | inr made ↦ made ];
      files = λ fd path there. elim (all.files fd path there) [ inl none ↦ absurd (let f : None ≡ Some path = none in cc) | inr opened ↦ opened ];
      opened_tags = λ slot tag pages h. ap is_some (all.opened_tags slot tag pages h).1;
      opened_files = λ fd k bytes h. ap is_some (all.opened_files fd k bytes h).1;
    }
