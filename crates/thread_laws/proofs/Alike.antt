-- Cells that are alike in one of them: it answers alike, and goes on alike; and the events of others leave it.
use Rattle.std.proofs.Common.{◌≡◌, ℕ, zero, suc, Bool, true, false, true≢false, List, [], ◌∷◌, length, ◌<◌, refl, sym, ap, subst, ◌∙◌, arith}
use Rattle.std.proofs.lemmas.Bool.{eqb-true, eq-eqb}
use Rattle.std.specs.Prelude.{Option, Some, None, ◌==◌, slice_get, slice_set, if◌then◌else◌, option_map, unwrap_or, find}
use Rattle.wedge_base.specs.Identities.{same_gate}
use Rattle.wedge_base.specs.declared.grants.GateId.{GateId}
use Rattle.wedge_events.specs.Directories.{directory_reply, directory_next}
use Rattle.wedge_events.specs.Gates.{Kept, gate_opening, gate_reply, gate_next, GateFits}
use Rattle.wedge_events.specs.Journals.{event_ask}
use Rattle.wedge_events.specs.Lives.{lives_reply, lives_next}
use Rattle.wedge_events.specs.Slots.{Segment, slot_reply, slot_after, SlotFits}
use Rattle.wedge_events.specs.Streams.{Stream, stream_reply, stream_after}
use Rattle.wedge_events.specs.declared.events.Ask.{Ask}
use Rattle.wedge_events.specs.declared.events.Ask.TheVariants as ask
use Rattle.wedge_events.specs.declared.events.CellName.{CellName}
use Rattle.wedge_events.specs.declared.events.CellName.TheVariants as cell
use Rattle.wedge_events.specs.declared.events.Event.{Event}
use Rattle.wedge_events.specs.declared.events.Event.TheVariants as event
use Rattle.wedge_events.specs.declared.events.LogEntry.{LogEntry}
use Rattle.machine.specs.Cells.{Cells, GateCell, held, slot_in, stream_in, kept_in, kept_among, put_kept, event_of, cells_after, AskFits}
use Rattle.run_laws.proofs.KnownGates.{same_id, itself}
use Rattle.thread_laws.specs.Histories.{is_of, entries_on, IsReplay, cells_after_entries, AreAlike}

-- ---- one place of a list

-- what is put at a place is there alike in lists that are as long
set_alike : {X : Type 0} (xs ys : List (Option X)) (s : ℕ) (x : Option X) → length xs ≡ length ys → held (slice_get (slice_set xs s x) s) ≡ held (slice_get (slice_set ys s x) s)
set_alike [] [] s x long = refl
set_alike [] (y ∷ ys) s x long = absurd (omega (arith, long))
set_alike (z ∷ zs) [] s x long = absurd (omega (arith, long))
set_alike (z ∷ zs) (y ∷ ys) zero x long = refl
set_alike (z ∷ zs) (y ∷ ys) (suc n) x long = set_alike zs ys n x (omega (arith, long))

-- another place is as it was
set_else : {X : Type 0} (xs : List (Option X)) (s n : ℕ) (x : Option X) → (s ≡ n → ⊥) → held (slice_get (slice_set xs s x) n) ≡ held (slice_get xs n)
set_else [] s n x apart = refl
set_else (y ∷ ys) zero zero x apart = absurd (apart refl)
set_else (y ∷ ys) zero (suc n) x apart = refl
set_else (y ∷ ys) (suc s) zero x apart = refl
set_else (y ∷ ys) (suc s) (suc n) x apart = set_else ys s n x (λ e. apart (ap suc e))

set_long : {X : Type 0} (xs : List (Option X)) (s : ℕ) (x : Option X) → length (slice_set xs s x) ≡ length xs
set_long [] s x = refl
set_long (y ∷ ys) zero x = refl
set_long (y ∷ ys) (suc s) x = ap suc (set_long ys s x)

not_equal : (s n : ℕ) → (s == n) ≡ false → s ≡ n → ⊥
not_equal s n apart is = true≢false (sym (eq-eqb s n is) ∙ apart)

-- what is put at a place that is there is there
pub set_there : {X : Type 0} (xs : List (Option X)) (s : ℕ) (x : Option X) → s < length xs → held (slice_get (slice_set xs s x) s) ≡ x
set_there [] s x inside = absurd (omega (arith, inside))
set_there (y ∷ ys) zero x inside = refl
set_there (y ∷ ys) (suc n) x inside = set_there ys n x (omega (arith, inside))

-- ---- one cell of two worlds

-- (as in run_laws/proofs/CellChanging, where it is not public)
kept_put : (cs : List GateCell) (g id : GateId) (k : Kept) → kept_among (put_kept cs g k) id ≡ (if same_gate g id then k else kept_among cs id)
kept_put [] g id k = by_test (same_gate g id)
  where
    by_test : (t : Bool) → unwrap_or (option_map (λ (c : GateCell). c.kept) (if t then Some (record { id = g; kept = k }) else None)) gate_opening ≡ (if t then k else gate_opening)
    by_test true = refl
    by_test false = refl
kept_put (c ∷ cs) g id k = by_cell (same_gate c.id g) refl (kept_put cs g id k)
  where
    here : (t u v : Bool) (x y : Kept) → t ≡ u → unwrap_or (option_map (λ (c : GateCell). c.kept) (if t then Some (record { id = c.id; kept = x }) else find (λ d. same_gate d.id id) cs)) gate_opening
        ≡ (if u then x else kept_among cs id)
    here true true v x y e = refl
    here false false v x y e = refl
    here true false v x y e = absurd cc
    here false true v x y e = absurd cc

    skips : (t u : Bool) → (t ≡ true → u ≡ false) → (if t then c.kept else (if u then k else kept_among cs id)) ≡ (if u then k else (if t then c.kept else kept_among cs id))
    skips true true apart = absurd (true≢false (apart refl))
    skips true false apart = refl
    skips false u apart = refl

    first : (t : Bool) (d : GateCell) (o : Option GateCell) → unwrap_or (option_map (λ (c : GateCell). c.kept) (if t then Some d else o)) gate_opening ≡ (if t then d.kept else unwrap_or (option_map (λ (c : GateCell). c.kept) o) gate_opening)
    first true d o = refl
    first false d o = refl

    passed : (t u : Bool) (x : Kept) → t ≡ u → (if t then k else x) ≡ (if u then k else (if t then c.kept else x))
    passed true true x e = refl
    passed false false x e = refl
    passed true false x e = absurd cc
    passed false true x e = absurd cc

    others : same_gate c.id g ≡ false → same_gate c.id id ≡ true → same_gate g id ≡ false
    others apart is = by_test (same_gate g id) refl
      where
        by_test : (t : Bool) → same_gate g id ≡ t → t ≡ false
        by_test false e = refl
        by_test true e = absurd (true≢false (sym (subst (λ x. same_gate c.id x ≡ true) (sym (same_id g id e)) is) ∙ apart))

    by_cell : (t : Bool) → same_gate c.id g ≡ t → kept_among (put_kept cs g k) id ≡ (if same_gate g id then k else kept_among cs id) → kept_among (if t then record c { kept = k } ∷ cs else c ∷ put_kept cs g k) id ≡ (if same_gate g id then k else kept_among (c ∷ cs) id)
    by_cell true is then_ =
        first (same_gate c.id id) (record c { kept = k }) (find (λ d. same_gate d.id id) cs)
        ∙ (passed (same_gate c.id id) (same_gate g id) (kept_among cs id) (ap (λ x. same_gate x id) (same_id c.id g is))
        ∙ ap (λ x. if same_gate g id then k else x) (sym (first (same_gate c.id id) c (find (λ d. same_gate d.id id) cs))))
    by_cell false is then_ =
        first (same_gate c.id id) c (find (λ d. same_gate d.id id) (put_kept cs g k))
        ∙ (ap (λ x. if same_gate c.id id then c.kept else x) then_
        ∙ (skips (same_gate c.id id) (same_gate g id) (others is)
        ∙ ap (λ x. if same_gate g id then k else x) (sym (first (same_gate c.id id) c (find (λ d. same_gate d.id id) cs)))))

pub kept_there : (cs : List GateCell) (id : GateId) (k : Kept) → kept_among (put_kept cs id k) id ≡ k
kept_there cs id k = kept_put cs id id k ∙ ap (λ t. if t then k else kept_among cs id) (itself id)

pub alike_self : (x : CellName) (c : Cells) → AreAlike x c c
alike_self cell.Slots c = refl
alike_self (cell.Slot s) c = (refl, refl)
alike_self cell.Fds c = refl
alike_self (cell.Fd n) c = (refl, refl)
alike_self cell.Lives c = refl
alike_self (cell.Gate g) c = refl

-- it answers alike
alike_event : (x : CellName) (c d : Cells) (e : Event) → is_of x e ≡ true → AreAlike x c d → event_of c (event_ask e) ≡ event_of d (event_ask e)
alike_event cell.Slots c d (event.Slots q r) own h = ap (λ p. Some (event.Slots q (directory_reply p q))) h
alike_event (cell.Slot s) c d (event.Slot slot q r) own h =
    let here : slot_in c slot ≡ slot_in d slot = subst (λ n. slot_in c n ≡ slot_in d n) (sym (eqb-true slot s own)) h.0 in
    ap (λ g. Some (event.Slot slot q (slot_reply g q))) here
alike_event cell.Fds c d (event.Fds q r) own h = ap (λ p. Some (event.Fds q (directory_reply p q))) h
alike_event (cell.Fd n) c d (event.Fd fd q r) own h =
    let here : stream_in c fd ≡ stream_in d fd = subst (λ m. stream_in c m ≡ stream_in d m) (sym (eqb-true fd n own)) h.0 in
    ap (λ s. Some (event.Fd fd q (stream_reply s q))) here
alike_event cell.Lives c d (event.Lives q r) own h = ap (λ n. Some (event.Lives q (lives_reply n q))) h
alike_event (cell.Gate g) c d (event.Gate id q r) own h =
    let here : kept_in c id ≡ kept_in d id = subst (λ m. kept_in c m ≡ kept_in d m) (sym (same_id id g own)) h in
    ap (λ k. Some (event.Gate id q (gate_reply k q))) here
alike_event x c d e own h = absurd cc

-- and goes on alike
slot_goes : (c d : Cells) (slot : ℕ) (f : Option Segment → Option Segment) → AreAlike (cell.Slot slot) c d
    → AreAlike (cell.Slot slot) (record c { slots = slice_set c.slots slot (f (slot_in c slot)) }) (record d { slots = slice_set d.slots slot (f (slot_in d slot)) })
slot_goes c d slot f h = (
  ap (λ g. held (slice_get (slice_set c.slots slot (f g)) slot)) h.0 ∙ set_alike c.slots d.slots slot (f (slot_in d slot)) h.1,
  set_long c.slots slot (f (slot_in c slot)) ∙ (h.1 ∙ sym (set_long d.slots slot (f (slot_in d slot)))),
)

stream_goes : (c d : Cells) (fd : ℕ) (f : Option Stream → Option Stream) → AreAlike (cell.Fd fd) c d
    → AreAlike (cell.Fd fd) (record c { streams = slice_set c.streams fd (f (stream_in c fd)) }) (record d { streams = slice_set d.streams fd (f (stream_in d fd)) })
stream_goes c d fd f h = (
  ap (λ g. held (slice_get (slice_set c.streams fd (f g)) fd)) h.0 ∙ set_alike c.streams d.streams fd (f (stream_in d fd)) h.1,
  set_long c.streams fd (f (stream_in c fd)) ∙ (h.1 ∙ sym (set_long d.streams fd (f (stream_in d fd)))),
)

gate_goes : (c d : Cells) (id : GateId) (f : Kept → Kept) → AreAlike (cell.Gate id) c d
    → AreAlike (cell.Gate id) (record c { gates = put_kept c.gates id (f (kept_in c id)) }) (record d { gates = put_kept d.gates id (f (kept_in d id)) })
gate_goes c d id f h =
    let put : (cs : List GateCell) (k : Kept) → kept_among (put_kept cs id k) id ≡ k = λ cs k. kept_put cs id id k ∙ ap (λ t. if t then k else kept_among cs id) (itself id) in
    put c.gates (f (kept_in c id)) ∙ (ap f h ∙ sym (put d.gates (f (kept_in d id))))

alike_next : (x : CellName) (c d : Cells) (e : Event) → is_of x e ≡ true → AreAlike x c d → AreAlike x (cells_after c e) (cells_after d e)
alike_next cell.Slots c d (event.Slots q r) own h = ap (λ p. directory_next p q) h
alike_next (cell.Slot s) c d (event.Slot slot q r) own h =
    subst (λ n. AreAlike (cell.Slot n) c d → AreAlike (cell.Slot n) (cells_after c (event.Slot slot q r)) (cells_after d (event.Slot slot q r))) (eqb-true slot s own)
    (slot_goes c d slot (λ g. slot_after g q r)) h
alike_next cell.Fds c d (event.Fds q r) own h = ap (λ p. directory_next p q) h
alike_next (cell.Fd n) c d (event.Fd fd q r) own h =
    subst (λ m. AreAlike (cell.Fd m) c d → AreAlike (cell.Fd m) (cells_after c (event.Fd fd q r)) (cells_after d (event.Fd fd q r))) (eqb-true fd n own)
    (stream_goes c d fd (λ s. stream_after s q r)) h
alike_next cell.Lives c d (event.Lives q r) own h = ap (λ n. lives_next n q) h
alike_next (cell.Gate g) c d (event.Gate id q r) own h =
    subst (λ m. AreAlike (cell.Gate m) c d → AreAlike (cell.Gate m) (cells_after c (event.Gate id q r)) (cells_after d (event.Gate id q r))) (same_id id g own)
    (gate_goes c d id (λ k. gate_next k q)) h
alike_next x c d e own h = absurd cc

-- an event of another cell leaves it
other_cell : (x : CellName) (c d : Cells) (e : Event) → is_of x e ≡ false → AreAlike x c d → AreAlike x (cells_after c e) d
other_cell cell.Slots c d (event.Slots q r) own h = absurd cc
other_cell cell.Slots c d e own h = h
other_cell (cell.Slot s) c d (event.Slot slot q r) own h =
    (set_else c.slots slot s (slot_after (slot_in c slot) q r) (not_equal slot s own) ∙ h.0, set_long c.slots slot (slot_after (slot_in c slot) q r) ∙ h.1)
other_cell (cell.Slot s) c d e own h = h
other_cell cell.Fds c d (event.Fds q r) own h = absurd cc
other_cell cell.Fds c d e own h = h
other_cell (cell.Fd n) c d (event.Fd fd q r) own h =
    (set_else c.streams fd n (stream_after (stream_in c fd) q r) (not_equal fd n own) ∙ h.0, set_long c.streams fd (stream_after (stream_in c fd) q r) ∙ h.1)
other_cell (cell.Fd n) c d e own h = h
other_cell cell.Lives c d (event.Lives q r) own h = absurd cc
other_cell cell.Lives c d e own h = h
other_cell (cell.Gate g) c d (event.Gate id q r) own h =
    kept_put c.gates id g (gate_next (kept_in c id) q) ∙ (ap (λ t. if t then gate_next (kept_in c id) q else kept_among c.gates g) own ∙ h)
other_cell (cell.Gate g) c d e own h = h

-- an event leaves as many streams as there were
pub streams_long : (c : Cells) (e : Event) → length (cells_after c e).streams ≡ length c.streams
streams_long c (event.Fd fd q r) = set_long c.streams fd (stream_after (stream_in c fd) q r)
streams_long c e = refl

-- ---- what a cell says of an event

-- what is asked of a slot or of a gate fits it
abbrev pub FitsAsk : Cells → Ask → Type 0
FitsAsk c (ask.Slot slot q) = SlotFits (slot_in c slot) q
FitsAsk c (ask.Gate id q) = GateFits (kept_in c id) q
FitsAsk c q = Unit {0}

pub record Answers (c : Cells) (e : Event) : Type 0 where
  pub reply : event_of c (event_ask e) ≡ Some e
  pub fits : FitsAsk c (event_ask e)

fits_alike : (x : CellName) (c d : Cells) (e : Event) → is_of x e ≡ true → AreAlike x c d → AskFits d (event_ask e) → FitsAsk c (event_ask e)
fits_alike (cell.Slot s) c d (event.Slot slot q r) own h f =
    let here : slot_in c slot ≡ slot_in d slot = subst (λ n. slot_in c n ≡ slot_in d n) (sym (eqb-true slot s own)) h.0 in
    subst (λ g. SlotFits g q) (sym here) f.1
fits_alike (cell.Gate g) c d (event.Gate id q r) own h f =
    let here : kept_in c id ≡ kept_in d id = subst (λ m. kept_in c m ≡ kept_in d m) (sym (same_id id g own)) h in
    subst (λ k. GateFits k q) (sym here) f
fits_alike cell.Slots c d (event.Slots q r) own h f = tt
fits_alike cell.Fds c d (event.Fds q r) own h f = tt
fits_alike (cell.Fd n) c d (event.Fd fd q r) own h f = tt
fits_alike cell.Lives c d (event.Lives q r) own h f = tt
fits_alike x c d e own h f = absurd cc

-- ---- a cell with the entries of it that are to come

pub record CellOn (x : CellName) (left : Cells) (c : Cells) (es : List LogEntry) : Type 0 where
  pub replayed : Cells
  pub clock : ℕ
  pub alike : AreAlike x c replayed
  pub replay : IsReplay x replayed clock es
  pub leads : cells_after_entries replayed es ≡ left

first_on : (x : CellName) (e : LogEntry) (es : List LogEntry) (t : Bool) → is_of x e.event ≡ t → entries_on x (e ∷ es) ≡ (if t then e ∷ entries_on x es else entries_on x es)
first_on x e es t is = ap (λ u. if u then e ∷ entries_on x es else entries_on x es) is

-- it answers the first one so
on_answers : (x : CellName) (left c : Cells) (e : LogEntry) (es : List LogEntry) → is_of x e.event ≡ true → CellOn x left c (entries_on x (e ∷ es)) → Answers c e.event
on_answers x left c e es own h =
    let all : IsReplay x h.replayed h.clock (e ∷ entries_on x es) = subst (IsReplay x h.replayed h.clock) (first_on x e es true own) h.replay in
    record {
      reply = alike_event x c h.replayed e.event own h.alike ∙ all.0.reply;
      fits = fits_alike x c h.replayed e.event own h.alike all.0.fits;
    }

-- and goes on
on_goes : (x : CellName) (left c : Cells) (e : LogEntry) (es : List LogEntry) (t : Bool) → is_of x e.event ≡ t → CellOn x left c (entries_on x (e ∷ es)) → CellOn x left (cells_after c e.event) (entries_on x es)
on_goes x left c e es true own h =
    let all : IsReplay x h.replayed h.clock (e ∷ entries_on x es) = subst (IsReplay x h.replayed h.clock) (first_on x e es true own) h.replay in
    record {
      replayed = cells_after h.replayed e.event;
      clock = e.stamp;
      alike = alike_next x c h.replayed e.event own h.alike;
      replay = all.1;
      leads = ap (cells_after_entries h.replayed) (sym (first_on x e es true own)) ∙ h.leads;
    }
on_goes x left c e es false own h =
    record {
      replayed = h.replayed;
      clock = h.clock;
      alike = other_cell x c h.replayed e.event own h.alike;
      replay = subst (IsReplay x h.replayed h.clock) (first_on x e es false own) h.replay;
      leads = ap (cells_after_entries h.replayed) (sym (first_on x e es false own)) ∙ h.leads;
    }

pub cells_go : (left : CellName → Cells) (c : Cells) (e : LogEntry) (es : List LogEntry) → ((x : CellName) → CellOn x (left x) c (entries_on x (e ∷ es))) → (x : CellName) → CellOn x (left x) (cells_after c e.event) (entries_on x es)
cells_go left c e es h x = on_goes x (left x) c e es (is_of x e.event) refl (h x)

-- what is asked of a cell
abbrev pub IsOfCell : Ask → Type 0
IsOfCell (ask.Slots q) = Unit {0}
IsOfCell (ask.Slot slot q) = Unit {0}
IsOfCell (ask.Fds q) = Unit {0}
IsOfCell (ask.Fd fd q) = Unit {0}
IsOfCell (ask.Lives q) = Unit {0}
IsOfCell (ask.Gate id q) = Unit {0}
IsOfCell q = ⊥

of_cell : (e : Event) → IsOfCell (event_ask e) → (x : CellName) × (is_of x e ≡ true)
of_cell (event.Slots q r) h = (cell.Slots, refl)
of_cell (event.Slot slot q r) h = (cell.Slot slot, eq-eqb slot slot refl)
of_cell (event.Fds q r) h = (cell.Fds, refl)
of_cell (event.Fd fd q r) h = (cell.Fd fd, eq-eqb fd fd refl)
of_cell (event.Lives q r) h = (cell.Lives, refl)
of_cell (event.Gate id q r) h = (cell.Gate id, itself id)
of_cell (event.Start child) h = absurd h
of_cell (event.Join k how fuel) h = absurd h
of_cell (event.Enter run) h = absurd h
of_cell (event.Leave how) h = absurd h

pub cells_answer : (left : CellName → Cells) (c : Cells) (e : LogEntry) (es : List LogEntry) → ((x : CellName) → CellOn x (left x) c (entries_on x (e ∷ es))) → IsOfCell (event_ask e.event) → Answers c e.event
cells_answer left c e es h asked = let x = of_cell e.event asked in on_answers x.0 (left x.0) c e es x.1 (h x.0)
