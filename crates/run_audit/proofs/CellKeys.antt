-- Cells are in one order, and entries of one cell tie.
use Rattle.std.proofs.Common.{◌≡◌, ℕ, Bool, true, false, true≢false, not, ◌&&◌, List, [], ◌∷◌, refl, sym, ap, subst, ◌∙◌, arith, Less, Equal, Greater}
use Rattle.std.proofs.lemmas.Bool.{eqb-true, eq-eqb}
use Rattle.std.specs.Prelude.{Option, Some, None, ◌==◌, nat_lt, if◌then◌else◌}
use Rattle.std.specs.List.{filter}
use Rattle.std.specs.List.Sorted.{ties, IsStableBy}
use Rattle.std.specs.Ordering.{nat_cmp, is_lt, ordering_then, ordering_reverse, is_eq}
use Rattle.std.specs.Cmp.Lexicographic.{slice_cmp, texts_ties}
use Rattle.std.specs.declared.cmp.Ordering.{Ordering}
use Rattle.wedge_base.specs.declared.grants.GateId.{GateId}
use Rattle.cow_pages.specs.PrivateMemory.{no_memory}
use Rattle.wedge_events.specs.Journals.{cell_of}
use Rattle.wedge_events.specs.declared.cells.DirectoryAsk.TheVariants as directory_ask
use Rattle.wedge_events.specs.declared.cells.DirectoryReply.TheVariants as directory_reply
use Rattle.wedge_events.specs.declared.cells.SlotAsk.TheVariants as slot_ask
use Rattle.wedge_events.specs.declared.cells.SlotReply.TheVariants as slot_reply
use Rattle.wedge_events.specs.declared.cells.StreamReply.TheVariants as stream_reply
use Rattle.wedge_events.specs.declared.cells.StreamAsk.TheVariants as stream_ask
use Rattle.wedge_events.specs.declared.cells.LivesAsk.TheVariants as lives_ask
use Rattle.wedge_events.specs.declared.cells.LivesReply.TheVariants as lives_reply
use Rattle.wedge_events.specs.declared.cells.GateAsk.TheVariants as gate_ask
use Rattle.wedge_events.specs.declared.cells.GateReply.TheVariants as gate_reply
use Rattle.wedge_base.specs.declared.rights.StreamKind.TheVariants as kind
use Rattle.wedge_events.specs.declared.events.CellName.{CellName}
use Rattle.wedge_events.specs.declared.events.CellName.TheVariants as cell
use Rattle.wedge_events.specs.declared.events.Event.{Event}
use Rattle.wedge_events.specs.declared.events.Event.TheVariants as event
use Rattle.wedge_events.specs.declared.events.LogEntry.{LogEntry}
use Rattle.run_laws.proofs.KnownGates.{itself, same_id}
use Rattle.run_laws.proofs.Named.{same_equal}
use Rattle.thread_laws.specs.Histories.{is_of, entries_on}
use Rattle.run_audit.specs.Orders.{cells_total}
use Rattle.run_audit.specs.CellOrder.{cell_kind, cell_maker, cell_number, cell_order, by_cell}

-- ---- what compares as equal is equal

then_equal : (o p : Ordering) → ordering_then o p ≡ Equal → (o ≡ Equal) × (p ≡ Equal)
then_equal Equal p h = (refl, h)
then_equal Less p h = absurd cc
then_equal Greater p h = absurd cc

number_equal : (t u : Bool) (x y : ℕ) → (x == y) ≡ u → (if t then Less else (if u then Equal else Greater)) ≡ Equal → x ≡ y
number_equal true u x y e h = absurd cc
number_equal false true x y e h = eqb-true x y e
number_equal false false x y e h = absurd cc

numbers_equal : (x y : ℕ) → nat_cmp x y ≡ Equal → x ≡ y
numbers_equal x y h = number_equal (nat_lt x y) (x == y) x y refl h

lists_equal : (xs ys : List ℕ) → slice_cmp nat_cmp xs ys ≡ Equal → xs ≡ ys
lists_equal xs ys h = same_equal xs ys (texts_ties xs ys ∙ ap is_eq h)

-- a cell is known by its kind, its maker and its number
abbrev gate_again : (g h : GateId) → g.maker ≡ h.maker → g.number ≡ h.number → g ≡ h
gate_again g h m n = λ i. record { maker = m i; number = n i }

below_six : (x : CellName) → cell_kind (Some x) ≡ 6 → ⊥
below_six cell.Slots h = omega (arith, h)
below_six (cell.Slot s) h = omega (arith, h)
below_six cell.Fds h = omega (arith, h)
below_six (cell.Fd n) h = omega (arith, h)
below_six cell.Lives h = omega (arith, h)
below_six (cell.Gate g) h = omega (arith, h)

one_cell : (c d : Option CellName) → cell_kind c ≡ cell_kind d → cell_maker c ≡ cell_maker d → cell_number c ≡ cell_number d → c ≡ d
one_cell (Some cell.Slots) (Some cell.Slots) k m n = refl
one_cell (Some (cell.Slot s)) (Some (cell.Slot t)) k m n = ap (λ x. Some (cell.Slot x)) n
one_cell (Some cell.Fds) (Some cell.Fds) k m n = refl
one_cell (Some (cell.Fd s)) (Some (cell.Fd t)) k m n = ap (λ x. Some (cell.Fd x)) n
one_cell (Some cell.Lives) (Some cell.Lives) k m n = refl
one_cell (Some (cell.Gate g)) (Some (cell.Gate h)) k m n = ap (λ x. Some (cell.Gate x)) (gate_again g h m n)
one_cell None None k m n = refl
one_cell None (Some x) k m n = absurd (below_six x (sym k))
one_cell (Some x) None k m n = absurd (below_six x k)
one_cell c d k m n = absurd (omega (arith, k))

pub equal_cells : (c d : Option CellName) → cell_order c d ≡ Equal → c ≡ d
equal_cells c d h =
    let first = then_equal (nat_cmp (cell_kind c) (cell_kind d)) (ordering_then (slice_cmp nat_cmp (cell_maker c) (cell_maker d)) (nat_cmp (cell_number c) (cell_number d))) h in
    let others = then_equal (slice_cmp nat_cmp (cell_maker c) (cell_maker d)) (nat_cmp (cell_number c) (cell_number d)) first.1 in
    one_cell c d (numbers_equal (cell_kind c) (cell_kind d) first.0) (lists_equal (cell_maker c) (cell_maker d) others.0) (numbers_equal (cell_number c) (cell_number d) others.1)

level : (o p : Ordering) → o ≡ ordering_reverse p → is_lt o ≡ false → is_lt p ≡ false → o ≡ Equal
level Less p a h k = absurd cc
level Equal p a h k = refl
level Greater Less a h k = absurd cc
level Greater Equal a h k = absurd cc
level Greater Greater a h k = absurd cc

-- neither comes before the other
pub level_cells : (c d : Option CellName) → is_lt (cell_order c d) ≡ false → is_lt (cell_order d c) ≡ false → c ≡ d
level_cells c d h k = equal_cells c d (level (cell_order c d) (cell_order d c) (cells_total.antisymm c d) h k)

even : (o : Ordering) → o ≡ ordering_reverse o → is_lt o ≡ false
even Less h = absurd cc
even Equal h = refl
even Greater h = refl

pub not_itself : (c : Option CellName) → is_lt (cell_order c c) ≡ false
not_itself c = even (cell_order c c) (cells_total.antisymm c c)

-- ---- ties

both_false : (a b : Bool) → not a && not b ≡ true → (a ≡ false) × (b ≡ false)
both_false false false h = (refl, refl)
both_false true b h = absurd cc
both_false false true h = absurd cc

pub tie_cells : (x y : LogEntry) → ties by_cell x y ≡ true → cell_of x.event ≡ cell_of y.event
tie_cells x y h = let p = both_false (by_cell x y) (by_cell y x) h in level_cells (cell_of x.event) (cell_of y.event) p.0 p.1

pub cells_tie : (x y : LogEntry) → cell_of x.event ≡ cell_of y.event → ties by_cell x y ≡ true
cells_tie x y h =
    let one : by_cell x y ≡ false = ap (λ c. is_lt (cell_order (cell_of x.event) c)) (sym h) ∙ not_itself (cell_of x.event) in
    let two : by_cell y x ≡ false = ap (λ c. is_lt (cell_order c (cell_of x.event))) (sym h) ∙ not_itself (cell_of x.event) in
    (λ i. not (one i) && not (two i))

-- ---- the cell of an event

pub of_is : (x : CellName) (e : Event) → is_of x e ≡ true → cell_of e ≡ Some x
of_is cell.Slots (event.Slots q r) h = refl
of_is (cell.Slot s) (event.Slot slot q r) h = ap (λ n. Some (cell.Slot n)) (eqb-true slot s h)
of_is cell.Fds (event.Fds q r) h = refl
of_is (cell.Fd n) (event.Fd fd q r) h = ap (λ m. Some (cell.Fd m)) (eqb-true fd n h)
of_is cell.Lives (event.Lives q r) h = refl
of_is (cell.Gate g) (event.Gate id q r) h = ap (λ m. Some (cell.Gate m)) (same_id id g h)
of_is x e h = absurd cc

pub is_here : (e : Event) (name : CellName) → cell_of e ≡ Some name → is_of name e ≡ true
is_here (event.Slots q r) name h = let n : cell.Slots ≡ name = cc in subst (λ m. is_of m (event.Slots q r) ≡ true) n refl
is_here (event.Slot slot q r) name h = let n : cell.Slot slot ≡ name = cc in subst (λ m. is_of m (event.Slot slot q r) ≡ true) n (eq-eqb slot slot refl)
is_here (event.Fds q r) name h = let n : cell.Fds ≡ name = cc in subst (λ m. is_of m (event.Fds q r) ≡ true) n refl
is_here (event.Fd fd q r) name h = let n : cell.Fd fd ≡ name = cc in subst (λ m. is_of m (event.Fd fd q r) ≡ true) n (eq-eqb fd fd refl)
is_here (event.Lives q r) name h = let n : cell.Lives ≡ name = cc in subst (λ m. is_of m (event.Lives q r) ≡ true) n refl
is_here (event.Gate id q r) name h = let n : cell.Gate id ≡ name = cc in subst (λ m. is_of m (event.Gate id q r) ≡ true) n (itself id)
is_here (event.Start child) name h = absurd cc
is_here (event.Join child end fuel) name h = absurd cc
is_here (event.Enter run) name h = absurd cc
is_here (event.Leave end) name h = absurd cc

-- an event of each cell
abbrev event_on : CellName → Event
event_on cell.Slots = event.Slots directory_ask.Claim directory_reply.Full
event_on (cell.Slot s) = event.Slot s (slot_ask.Close 0) slot_reply.Full
event_on cell.Fds = event.Fds directory_ask.Claim directory_reply.Full
event_on (cell.Fd n) = event.Fd n (stream_ask.Open kind.Source []) stream_reply.NoSuch
event_on cell.Lives = event.Lives lives_ask.Claim lives_reply.Full
event_on (cell.Gate g) = event.Gate g (gate_ask.Enter [] no_memory) gate_reply.Left

abbrev example : CellName → LogEntry
example name = record { stamp = 0; actor = []; event = event_on name }

on_name : (name : CellName) → cell_of (event_on name) ≡ Some name
on_name cell.Slots = refl
on_name (cell.Slot s) = refl
on_name cell.Fds = refl
on_name (cell.Fd n) = refl
on_name cell.Lives = refl
on_name (cell.Gate g) = refl

one_test : (s t : Bool) → (s ≡ true → t ≡ true) → (t ≡ true → s ≡ true) → s ≡ t
one_test true t f g = sym (f refl)
one_test false true f g = absurd (true≢false (sym (g refl)))
one_test false false f g = refl

ties_on : (name : CellName) (e : LogEntry) → is_of name e.event ≡ ties by_cell (example name) e
ties_on name e =
    one_test (is_of name e.event) (ties by_cell (example name) e) (λ h. cells_tie (example name) e (on_name name ∙ sym (of_is name e.event h)))
    (λ h. is_here e.event name (sym (tie_cells (example name) e h) ∙ on_name name))

filter_on : (name : CellName) (es : List LogEntry) → entries_on name es ≡ filter (ties by_cell (example name)) es
filter_on name [] = refl
filter_on name (e ∷ es) =
    ap (λ t. if t then e ∷ entries_on name es else entries_on name es) (ties_on name e)
    ∙ ap (λ zs. if ties by_cell (example name) e then e ∷ zs else zs) (filter_on name es)

-- sorted by cells, the entries of each are the same
pub stable_on : (name : CellName) (xs ys : List LogEntry) → IsStableBy by_cell xs ys → entries_on name ys ≡ entries_on name xs
stable_on name xs ys h = filter_on name ys ∙ (h (example name) ∙ sym (filter_on name xs))
