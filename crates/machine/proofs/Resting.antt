-- An actor at rest: it keeps its name, its sheet and what it made, it has paid for what it asks, and it does
-- not run.
use Rattle.std.proofs.Common.{◌≡◌, ℕ, zero, suc, ◌+◌, ◌<◌, ◌≤◌, Bool, true, false, refl, sym, ap, subst, ◌∙◌, arith}
use Rattle.std.proofs.lemmas.Bool.Decides.{nat_tests}
use Rattle.std.proofs.lemmas.Bool.{eqb-true}
use Rattle.std.specs.Prelude.{Option, Some, None, not, ◌⊎◌, if◌then◌else◌, ◌==◌, nat_lt, nat_le, List, [], ◌∷◌, length, slice_get}
use Rattle.std.proofs.Common.{inl, inr}
use Rattle.wedge_base.specs.Images.{Image, fetch, in_text, read_text, slot_of}
use Rattle.wedge_base.specs.Bytes.{number_of}
use Rattle.wedge_base.specs.Memory.{range_at, read_range}
use Rattle.wedge_events.specs.Streams.{most_fds}
use Rattle.wedge_base.specs.declared.image.MemoryRange.{MemoryRange}
use Rattle.wedge_base.specs.declared.rights.End.{End}
use Rattle.wedge_base.specs.declared.rights.End.TheVariants as end_
use Rattle.wedge_base.specs.declared.rights.Code.{Code}
use Rattle.wedge_base.specs.declared.rights.Code.TheVariants as code
use Rattle.wedge_base.specs.declared.address.Place.{Place}
use Rattle.rv_isa.specs.declared.Instr.{Instr}
use Rattle.rv_isa.specs.Table.{decode}
use Rattle.rv_hart.specs.declared.Need.{Need}
use Rattle.rv_hart.specs.declared.Need.TheVariants as need
use Rattle.rv_hart.specs.declared.Hart.{Hart}
use Rattle.rv_hart.specs.Local.{local}
use Rattle.machine.specs.declared.phase.Phase.{Phase}
use Rattle.machine.specs.declared.phase.Phase.TheVariants as phase
use Rattle.wedge_base.specs.Files.{may_open}
use Rattle.wedge_base.specs.declared.image.FileEntry.{FileEntry}
use Rattle.machine.specs.Actors.{ActorState, but_gates, right_of, answers, denies, ends, refuses, spends, wants, gate_held}
use Rattle.cow_pages.specs.Copies.{copy_at, holds_copy, read_copy}
use Rattle.machine.specs.Accesses.{loads, stores, load_bytes, load_copy, load_window, load_range, store_copy, store_window, store_range, has_loaded, fits_read, fits_write}
use Rattle.wedge_base.specs.Names.{most_parts}
use Rattle.callgate.specs.declared.gate.Gate.{Gate}
use Rattle.wedge_base.specs.Sheets.{Draft, Made, takes_tag, takes_fd, takes_gate, first_excess}
use Rattle.wedge_base.specs.Maps.{has}
use Rattle.wedge_base.specs.Rights.{at_least}
use Rattle.wedge_events.specs.declared.events.Want.{Want}
use Rattle.wedge_base.specs.declared.rights.Denial.{Denial}
use Rattle.wedge_base.specs.declared.rights.Denial.TheVariants as denial
use Rattle.wedge_base.specs.declared.rights.Right.TheVariants as right
use Rattle.wedge_base.specs.declared.rights.FdBits.{FdBits}
use Rattle.wedge_base.specs.declared.rights.Right.{Right}
use Rattle.machine.specs.Children.{is_child}
use Rattle.machine.specs.Preparation.{Preparation}
use Rattle.machine.specs.Resting.{NotMaking}
use Rattle.machine.specs.declared.copy_grant.CopyGrant.{CopyGrant}
use Rattle.machine.specs.Calls.{serves, exit, is_procedure, create, create_with, create_checked, create_allowed, join, are_pages, tag_new, tag_delete, smalloc, free_at, sfree, fd_read, fd_append, fd_close, most_drafts, sc_new, right_asked, bits_asked, add_right, add_right_to, sc_mem_add, add_bits, add_bits_to, sc_fd_add, add_gate_to, sc_cgate_add, makes_or_waits, may_be_gate, make_checked, make_with, cgate_make, draft_call, a0, a1, a2, a3, a7, set_user, sc_user, path_in, set_root, sc_root, file_at, mode_asked, suits, open_file, open_path, file_open, enter_allowed, enter_checked, enter_lending, enter_held, cgate, lent_asked}
use Rattle.machine.specs.Local.{step_with_need, step_with_instr, step_with_fuel, step_with_word, step, is_running, has_ended, run_local, rest}
use Rattle.machine.specs.Entering.{may_lend, excess_lent}
use Rattle.machine.specs.Entrance.{Entrance}

-- no event is still to come of a call that had one
abbrev pub IsCalm : Phase → Type 0
IsCalm phase.Running = Unit {0}
IsCalm (phase.Within q) = Unit {0}
IsCalm (phase.Starting pre) = ⊥
IsCalm (phase.MakingGate pre) = Unit {0}
IsCalm (phase.Opening slot tag) = ⊥
IsCalm (phase.Releasing slot) = ⊥
IsCalm (phase.Entering entrance) = Unit {0}
IsCalm (phase.Waiting number) = ⊥
IsCalm (phase.OpeningFile o) = o.number ≡ None
IsCalm (phase.Ending e) = Unit {0}
IsCalm (phase.Ended e) = Unit {0}

-- what an actor made, and the gates that it knows: its gates apart where an instruction may make one
pub record Things : Type 0 where
  pub made : Made
  pub gates : List Gate

abbrev pub things : Bool → ActorState → Things
things true a = record { made = but_gates a.made; gates = [] }
things false a = record { made = a.made; gates = a.gates }

abbrev pub Unmade : Bool → Phase → Type 0
Unmade true p = Unit {0}
Unmade false p = NotMaking p

-- what the work of an instruction keeps, what it costs beside its unit of fuel, and how it leaves the actor; makes tells whether it may
-- make a gate
pub record Goes (cost : ℕ) (makes : Bool) (a b : ActorState) : Type 0 where
  pub name : b.name ≡ a.name
  pub compartment : b.compartment ≡ a.compartment
  pub run_of : b.run_of ≡ a.run_of
  pub sheet : b.sheet ≡ a.sheet
  pub fuel : b.fuel + cost ≡ a.fuel
  pub made : things makes b ≡ things makes a
  pub labels : b.labels ≡ a.labels
  pub starts : b.starts ≡ a.starts
  pub unjoined : b.unjoined ≡ a.unjoined
  pub live : has_ended a.phase ≡ false → has_ended b.phase ≡ false
  pub calm : IsCalm a.phase → IsCalm b.phase
  pub unmade : Unmade makes a.phase → Unmade makes b.phase

costs_nothing : (n : ℕ) → n + 0 ≡ n
costs_nothing n = omega arith

goes_if : (a x y : ActorState) (b : Bool) → Goes 0 false a x → Goes 0 false a y → Goes 0 false a (if b then x else y)
goes_if a x y true p q = p
goes_if a x y false p q = q

goes_end : (a : ActorState) (e : End) → Goes 0 false a (ends a e)
goes_end a e = record { name = refl; compartment = refl; run_of = refl; sheet = refl; fuel = costs_nothing a.fuel; made = refl; labels = refl; starts = refl; unjoined = refl; live = λ h. refl; calm = λ h. tt; unmade = λ h. tt }

goes_refused : (a : ActorState) (c : Code) → Goes 0 false a (refuses a c)
goes_refused a c = record { name = refl; compartment = refl; run_of = refl; sheet = refl; fuel = costs_nothing a.fuel; made = refl; labels = refl; starts = refl; unjoined = refl; live = λ h. refl; calm = λ h. tt; unmade = λ h. tt }

goes_loaded : (ins : Instr) (s : Bool) (a : ActorState) (width value : ℕ) → Goes 0 false a (has_loaded ins s a width value)
goes_loaded ins s a width value = record { name = refl; compartment = refl; run_of = refl; sheet = refl; fuel = costs_nothing a.fuel; made = refl; labels = refl; starts = refl; unjoined = refl; live = λ h. h; calm = λ h. h; unmade = λ h. h }

goes_load_bytes : (ins : Instr) (s : Bool) (a : ActorState) (width : ℕ) (o : Option (List ℕ)) → Goes 0 false a (load_bytes ins s a width o)
goes_load_bytes ins s a width None = goes_end a end_.Unmapped
goes_load_bytes ins s a width (Some bytes) = goes_loaded ins s a width (number_of bytes)

goes_load_copy : (ins : Instr) (s : Bool) (a : ActorState) (width : ℕ) (p : Place) (o : Option (List ℕ)) → Goes 0 false a (load_copy ins s a width p o)
goes_load_copy ins s a width p None = record { name = refl; compartment = refl; run_of = refl; sheet = refl; fuel = costs_nothing a.fuel; made = refl; labels = refl; starts = refl; unjoined = refl; live = λ h. refl; calm = λ h. tt; unmade = λ h. tt }
goes_load_copy ins s a width p (Some bytes) = goes_load_bytes ins s a width (read_copy p.offset width bytes)

goes_load_window : (ins : Instr) (s : Bool) (a : ActorState) (width : ℕ) (p : Option Place) → Goes 0 false a (load_window ins s a width p)
goes_load_window ins s a width None = goes_end a end_.Unmapped
goes_load_window ins s a width (Some p) = goes_load_copy ins s a width p (copy_at a.memory.copies p.slot)

goes_load_range : (ins : Instr) (s : Bool) (a : ActorState) (address width : ℕ) (r : Option MemoryRange) → Goes 0 false a (load_range ins s a address width r)
goes_load_range ins s a address width (Some r) = goes_loaded ins s a width (number_of (read_range r address width))
goes_load_range ins s a address width None = goes_load_window ins s a width (slot_of address)

goes_load : (i : Image) (ins : Instr) (s : Bool) (a : ActorState) (address width : ℕ) → Goes 0 false a (loads i ins s a address width)
goes_load i ins s a address width =
    goes_if a (ends a end_.Misaligned) _ _ (goes_end a end_.Misaligned)
    (goes_if a (has_loaded ins s a width (number_of (read_text i address width))) _ (in_text i address width) (goes_loaded ins s a width (number_of (read_text i address width)))
    (goes_load_range ins s a address width (range_at a.memory.ranges address width)))

goes_store_copy : (a : ActorState) (width value : ℕ) (p : Place) (o : Option (List ℕ)) → Goes 0 false a (store_copy a width value p o)
goes_store_copy a width value p None = record { name = refl; compartment = refl; run_of = refl; sheet = refl; fuel = costs_nothing a.fuel; made = refl; labels = refl; starts = refl; unjoined = refl; live = λ h. refl; calm = λ h. tt; unmade = λ h. tt }
goes_store_copy a width value p (Some bytes) =
    goes_if a _ (ends a end_.Unmapped) (holds_copy p.offset width bytes) (record { name = refl; compartment = refl; run_of = refl; sheet = refl; fuel = costs_nothing a.fuel; made = refl; labels = refl; starts = refl; unjoined = refl; live = λ h. h; calm = λ h. h; unmade = λ h. h }) (goes_end a end_.Unmapped)

goes_store_window : (a : ActorState) (width value : ℕ) (p : Option Place) → Goes 0 false a (store_window a width value p)
goes_store_window a width value None = goes_end a end_.Unmapped
goes_store_window a width value (Some p) = goes_store_copy a width value p (copy_at a.memory.copies p.slot)

goes_store_range : (a : ActorState) (address width value : ℕ) (r : Option MemoryRange) → Goes 0 false a (store_range a address width value r)
goes_store_range a address width value (Some r) = record { name = refl; compartment = refl; run_of = refl; sheet = refl; fuel = costs_nothing a.fuel; made = refl; labels = refl; starts = refl; unjoined = refl; live = λ h. h; calm = λ h. h; unmade = λ h. h }
goes_store_range a address width value None = goes_store_window a width value (slot_of address)

goes_store : (i : Image) (a : ActorState) (address width value : ℕ) → Goes 0 false a (stores i a address width value)
goes_store i a address width value =
    goes_if a (ends a end_.Misaligned) _ _ (goes_end a end_.Misaligned)
    (goes_if a (ends a end_.TextStore) _ (in_text i address width) (goes_end a end_.TextStore)
    (goes_store_range a address width value (range_at a.memory.ranges address width)))

goes_append : (i : Image) (a : ActorState) → Goes 0 false a (fd_append i a)
goes_append i a =
    goes_if a (refuses a code.Bad) _ (not (fits_read i a (a1 a) (a2 a))) (goes_refused a code.Bad)
    (goes_if a (refuses a code.FuelShort) _ (nat_lt a.fuel (a2 a)) (goes_refused a code.FuelShort)
    (goes_if a (refuses a code.NoSuch) _ (nat_le most_fds (a0 a)) (goes_refused a code.NoSuch)
    (record { name = refl; compartment = refl; run_of = refl; sheet = refl; fuel = costs_nothing a.fuel; made = refl; labels = refl; starts = refl; unjoined = refl; live = λ h. refl; calm = λ h. tt; unmade = λ h. tt })))

goes_read : (a : ActorState) → Goes 0 false a (fd_read a)
goes_read a =
    goes_if a (refuses a code.Bad) _ (not (fits_write a (a1 a) (a2 a))) (goes_refused a code.Bad)
    (goes_if a (refuses a code.FuelShort) _ (nat_lt a.fuel (a2 a)) (goes_refused a code.FuelShort)
    (goes_if a (refuses a code.NoSuch) _ (nat_le most_fds (a0 a)) (goes_refused a code.NoSuch)
    (record { name = refl; compartment = refl; run_of = refl; sheet = refl; fuel = costs_nothing a.fuel; made = refl; labels = refl; starts = refl; unjoined = refl; live = λ h. refl; calm = λ h. tt; unmade = λ h. tt })))

goes_close : (a : ActorState) → Goes 0 false a (fd_close a)
goes_close a =
    goes_if a (refuses a code.NoSuch) _ (nat_le most_fds (a0 a)) (goes_refused a code.NoSuch)
    (record { name = refl; compartment = refl; run_of = refl; sheet = refl; fuel = costs_nothing a.fuel; made = refl; labels = refl; starts = refl; unjoined = refl; live = λ h. refl; calm = λ h. tt; unmade = λ h. tt })

-- an answer to a call, with other drafts
goes_drafted : (a : ActorState) (ds : List Draft) (value : ℕ) → Goes 0 false a (answers (record a { drafts = ds }) value)
goes_drafted a ds value = record { name = refl; compartment = refl; run_of = refl; sheet = refl; fuel = costs_nothing a.fuel; made = refl; labels = refl; starts = refl; unjoined = refl; live = λ h. refl; calm = λ h. tt; unmade = λ h. tt }

goes_right : (a : ActorState) (d : Draft) (r : Option Right) → Goes 0 false a (add_right a d r)
goes_right a d None = goes_refused a code.Bad
goes_right a d (Some r) = goes_if a _ (refuses a code.Full) (takes_tag d (a1 a)) (goes_drafted a _ 0) (goes_refused a code.Full)

goes_right_to : (a : ActorState) (d : Option Draft) → Goes 0 false a (add_right_to a d)
goes_right_to a None = goes_refused a code.NoSuch
goes_right_to a (Some d) = goes_right a d (right_asked (a2 a))

goes_bits : (a : ActorState) (d : Draft) (b : Option FdBits) → Goes 0 false a (add_bits a d b)
goes_bits a d None = goes_refused a code.Bad
goes_bits a d (Some b) = goes_if a _ (refuses a code.Full) (takes_fd d (a1 a)) (goes_drafted a _ 0) (goes_refused a code.Full)

goes_bits_to : (a : ActorState) (d : Option Draft) → Goes 0 false a (add_bits_to a d)
goes_bits_to a None = goes_refused a code.NoSuch
goes_bits_to a (Some d) = goes_bits a d (bits_asked (a2 a))

goes_gate : (i : Image) (a : ActorState) (d : Option Draft) → Goes 0 false a (add_gate_to i a d)
goes_gate i a None = goes_refused a code.NoSuch
goes_gate i a (Some d) =
    goes_if a (refuses a code.Bad) _ (not (is_procedure i (a1 a))) (goes_refused a code.Bad)
    (goes_if a _ (refuses a code.Full) (takes_gate d (a1 a)) (goes_drafted a _ 0) (goes_refused a code.Full))

goes_allowed : (a : ActorState) → Goes 0 false a (create_allowed a)
goes_allowed a =
    goes_if a (refuses a code.Deep) _ (nat_le most_parts (length a.name)) (goes_refused a code.Deep)
    (goes_if a (refuses a code.FuelShort) _ (nat_lt a.fuel (a3 a)) (goes_refused a code.FuelShort)
    (record { name = refl; compartment = refl; run_of = refl; sheet = refl; fuel = costs_nothing a.fuel; made = refl; labels = refl; starts = refl; unjoined = refl; live = λ h. refl; calm = λ h. tt; unmade = λ h. tt }))

goes_checked : (a : ActorState) (d : Option Denial) → Goes 0 false a (create_checked a d)
goes_checked a None = goes_allowed a
goes_checked a (Some d) = record { name = refl; compartment = refl; run_of = refl; sheet = refl; fuel = costs_nothing a.fuel; made = refl; labels = refl; starts = refl; unjoined = refl; live = λ h. refl; calm = λ h. tt; unmade = λ h. tt }

goes_create : (i : Image) (a : ActorState) (d : Option Draft) → Goes 0 false a (create_with i a d)
goes_create i a None = goes_refused a code.NoSuch
goes_create i a (Some d) = goes_if a (refuses a code.Bad) _ (not (is_procedure i (a1 a))) (goes_refused a code.Bad) (goes_checked a (first_excess a.sheet a.made d))

goes_join : (a : ActorState) → Goes 0 false a (join a)
goes_join a =
    goes_if a _ (refuses a code.NoSuch) (is_child a.unjoined (a0 a))
    (record { name = refl; compartment = refl; run_of = refl; sheet = refl; fuel = costs_nothing a.fuel; made = refl; labels = refl; starts = refl; unjoined = refl; live = λ h. refl; calm = λ h. tt; unmade = λ h. tt }) (goes_refused a code.NoSuch)

-- calls on tags
goes_denied : (a : ActorState) (d : Denial) → Goes 0 false a (denies a d)
goes_denied a d = record { name = refl; compartment = refl; run_of = refl; sheet = refl; fuel = costs_nothing a.fuel; made = refl; labels = refl; starts = refl; unjoined = refl; live = λ h. refl; calm = λ h. tt; unmade = λ h. tt }

goes_wanting : (a : ActorState) (q : Want) → Goes 0 false a (wants a q)
goes_wanting a q = record { name = refl; compartment = refl; run_of = refl; sheet = refl; fuel = costs_nothing a.fuel; made = refl; labels = refl; starts = refl; unjoined = refl; live = λ h. refl; calm = λ h. tt; unmade = λ h. tt }

goes_tag_new : (a : ActorState) → Goes 0 false a (tag_new a)
goes_tag_new a = goes_if a _ (refuses a code.Bad) (are_pages (a0 a)) (goes_wanting a _) (goes_refused a code.Bad)

goes_delete : (a : ActorState) → Goes 0 false a (tag_delete a)
goes_delete a = goes_if a _ (denies a (denial.NotMaker (a0 a))) (has a.made.tags (a0 a)) (goes_wanting a _) (goes_denied a _)

goes_smalloc : (a : ActorState) → Goes 0 false a (smalloc a)
goes_smalloc a =
    goes_if a (refuses a code.Bad) _ (a1 a == 0) (goes_refused a code.Bad)
    (goes_if a _ (denies a (denial.Tag (a0 a) right.ReadWrite)) (at_least (right_of a (a0 a)) right.ReadWrite) (goes_wanting a _) (goes_denied a _))

goes_free : (a : ActorState) (p : Option Place) → Goes 0 false a (free_at a p)
goes_free a None = goes_refused a code.Bad
goes_free a (Some p) = goes_wanting a _

goes_user : (a : ActorState) (d : Option Draft) → Goes 0 false a (set_user a d)
goes_user a None = goes_refused a code.NoSuch
goes_user a (Some d) = goes_drafted a _ 0

-- the call that sets a root directory costs a unit for each byte of the path, where it is not refused
abbrev pub root_price : ActorState → Option (List ℕ) → Option Draft → ℕ
root_price a path None = 0
root_price a None (Some d) = 0
root_price a (Some path) (Some d) = if nat_lt a.fuel (a2 a) then 0 else a2 a

pub not_below : (m n : ℕ) → nat_le n m ≡ not (nat_lt m n)
not_below m n = grind (arith, nat_tests)

goes_path : (a : ActorState) (ds : List Draft) (t : Bool) → nat_le (a2 a) a.fuel ≡ not t
    → Goes (if t then 0 else a2 a) false a (if t then refuses a code.FuelShort else answers (spends (record a { drafts = ds }) (a2 a)) 0)
goes_path a ds true e = goes_refused a code.FuelShort
goes_path a ds false e =
    let enough : a2 a ≤ a.fuel = grind (arith, nat_tests, e) in
    record { name = refl; compartment = refl; run_of = refl; sheet = refl; fuel = omega (arith, enough); made = refl; labels = refl; starts = refl; unjoined = refl; live = λ h. refl; calm = λ h. tt; unmade = λ h. tt }

goes_root : (a : ActorState) (path : Option (List ℕ)) (d : Option Draft) → Goes (root_price a path d) false a (set_root a path d)
goes_root a path None = goes_refused a code.NoSuch
goes_root a None (Some d) = goes_refused a code.Bad
goes_root a (Some path) (Some d) = goes_path a _ (nat_lt a.fuel (a2 a)) (not_below a.fuel (a2 a))

-- where no gate is made, none need be
weaker : (cost : ℕ) (t : Bool) (a b : ActorState) → Goes cost false a b → Goes cost t a b
weaker cost false a b g = g
weaker cost true a b g = record {
  name = g.name;
  compartment = g.compartment;
  run_of = g.run_of;
  sheet = g.sheet;
  fuel = g.fuel;
  made = ap (λ (x : Things). record { made = but_gates x.made; gates = [] }) g.made;
  labels = g.labels;
  starts = g.starts;
  unjoined = g.unjoined;
  live = g.live;
  calm = g.calm;
  unmade = λ h. tt;
}

-- the call that makes a gate
goes_or_waits : (a : ActorState) (d : Draft) (p : Preparation) (gs : List CopyGrant) → Goes 0 true a (makes_or_waits a d p gs)
goes_or_waits a d p [] = record { name = refl; compartment = refl; run_of = refl; sheet = refl; fuel = costs_nothing a.fuel; made = refl; labels = refl; starts = refl; unjoined = refl; live = λ h. refl; calm = λ h. tt; unmade = λ h. tt }
goes_or_waits a d p (g ∷ gs) = record { name = refl; compartment = refl; run_of = refl; sheet = refl; fuel = costs_nothing a.fuel; made = refl; labels = refl; starts = refl; unjoined = refl; live = λ h. refl; calm = λ h. tt; unmade = λ h. tt }

goes_made : (i : Image) (a : ActorState) (d : Draft) (o : Option Denial) → Goes 0 true a (make_checked i a d o)
goes_made i a d (Some x) = weaker 0 true a _ (goes_denied a x)
goes_made i a d None = goes_or_waits a d _ _

goes_make : (i : Image) (a : ActorState) (d : Option Draft) → Goes 0 true a (make_with i a d)
goes_make i a None = weaker 0 true a _ (goes_refused a code.NoSuch)
goes_make i a (Some d) = by_test (may_be_gate i a d)
  where
    by_test : (t : Bool) → Goes 0 true a (if not t then refuses a code.Bad else make_checked i a d (first_excess a.sheet a.made d))
    by_test false = weaker 0 true a _ (goes_refused a code.Bad)
    by_test true = goes_made i a d (first_excess a.sheet a.made d)

-- the call that enters a gate
goes_to_gate : (a : ActorState) (x : Entrance) → Goes 0 false a (record a { phase = phase.Entering x })
goes_to_gate a x = record { name = refl; compartment = refl; run_of = refl; sheet = refl; fuel = costs_nothing a.fuel; made = refl; labels = refl; starts = refl; unjoined = refl; live = λ h. refl; calm = λ h. tt; unmade = λ h. tt }

goes_entry : (a : ActorState) (g : Gate) (lent : Option Draft) → Goes 0 false a (enter_allowed a g lent)
goes_entry a g lent =
    goes_if a (refuses a code.Deep) _ (nat_le most_parts (length a.name)) (goes_refused a code.Deep)
    (goes_if a (refuses a code.FuelShort) _ (nat_lt a.fuel g.fuel) (goes_refused a code.FuelShort) (goes_to_gate a _))

goes_entry_checked : (a : ActorState) (g : Gate) (lent : Option Draft) (d : Option Denial) → Goes 0 false a (enter_checked a g lent d)
goes_entry_checked a g lent None = goes_entry a g lent
goes_entry_checked a g lent (Some d) = goes_denied a d

goes_lending : (a : ActorState) (g : Gate) (lent : Option (Option Draft)) → Goes 0 false a (enter_lending a g lent)
goes_lending a g None = goes_refused a code.NoSuch
goes_lending a g (Some lent) = goes_if a (refuses a code.Bad) _ (not (may_lend lent)) (goes_refused a code.Bad) (goes_entry_checked a g lent (excess_lent a lent))

goes_enter : (a : ActorState) (g : Option Gate) → Goes 0 false a (enter_held a g)
goes_enter a None = goes_denied a _
goes_enter a (Some g) = goes_lending a g (lent_asked a.drafts (a2 a))

-- a call by its number, of which that one alone costs anything, and one alone makes a gate
abbrev pub call_price : Image → ActorState → ℕ → ℕ
call_price i a n = if n == 12 then root_price a (path_in i a (a1 a) (a2 a)) (slice_get a.drafts (a0 a)) else 0

abbrev GoesCall : Image → ActorState → ℕ → ActorState → Type 0
GoesCall i a n x = Goes (call_price i a n) (n == 13) a x

goes_at : (i : Image) (a x y : ActorState) (n k : ℕ) (t : Bool) → (n == k) ≡ t → (k == 12) ≡ false → Goes 0 (k == 13) a x → GoesCall i a n y → GoesCall i a n (if t then x else y)
goes_at i a x y n k true e other h rest =
    let same : (k == 13) ≡ (n == 13) = ap (λ m. m == 13) (sym (eqb-true n k e)) in
    let free : call_price i a n ≡ 0 = ap (call_price i a) (eqb-true n k e) ∙ ap (λ t. if t then root_price a (path_in i a (a1 a) (a2 a)) (slice_get a.drafts (a0 a)) else 0) other in
    subst (λ c. Goes c (n == 13) a x) (sym free) (subst (λ t. Goes 0 t a x) same h)
goes_at i a x y n k false e other h rest = rest

goes_last : (i : Image) (a : ActorState) (n : ℕ) (t : Bool) → (n == 12) ≡ t → GoesCall i a n (if t then sc_root i a else refuses a code.Bad)
goes_last i a n true e =
    rw e (weaker _ (n == 13) a (sc_root i a) (goes_root a (path_in i a (a1 a) (a2 a)) (slice_get a.drafts (a0 a))))
goes_last i a n false e = rw e (weaker 0 (n == 13) a (refuses a code.Bad) (goes_refused a code.Bad))

goes_draft : (i : Image) (a : ActorState) (n : ℕ) → GoesCall i a n (draft_call i a n)
goes_draft i a n =
    goes_at i a (sc_new a) _ n 7 (n == 7) refl refl (goes_if a (refuses a code.Full) _ (nat_le most_drafts (length a.drafts)) (goes_refused a code.Full) (goes_drafted a _ (length a.drafts)))
    (goes_at i a (sc_mem_add a) _ n 8 (n == 8) refl refl (goes_right_to a (slice_get a.drafts (a0 a)))
    (goes_at i a (sc_fd_add a) _ n 9 (n == 9) refl refl (goes_bits_to a (slice_get a.drafts (a0 a)))
    (goes_at i a (sc_cgate_add i a) _ n 10 (n == 10) refl refl (goes_gate i a (slice_get a.drafts (a0 a)))
    (goes_at i a (sc_user a) _ n 11 (n == 11) refl refl (goes_user a (slice_get a.drafts (a0 a))) (goes_last i a n (n == 12) refl)))))

goes_file : (a : ActorState) (path : List ℕ) (b : FdBits) (f : Option FileEntry) → Goes 0 false a (open_file a path b f)
goes_file a path b None = goes_refused a code.NoSuch
goes_file a path b (Some f) =
    goes_if a (denies a (denial.File path)) _ (not (may_open a.sheet.user f b)) (goes_denied a _)
    (goes_if a (refuses a code.Bad) _ (not (suits f.kind b)) (goes_refused a code.Bad)
    (record { name = refl; compartment = refl; run_of = refl; sheet = refl; fuel = costs_nothing a.fuel; made = refl; labels = refl; starts = refl; unjoined = refl; live = λ h. refl; calm = λ h. refl; unmade = λ h. tt }))

goes_open : (i : Image) (a : ActorState) (b : Option FdBits) (path : Option (List ℕ)) → Goes 0 false a (open_path i a b path)
goes_open i a None path = goes_refused a code.Bad
goes_open i a (Some b) None = goes_refused a code.Bad
goes_open i a (Some b) (Some path) = goes_if a (refuses a code.FuelShort) _ (nat_lt a.fuel (a1 a)) (goes_refused a code.FuelShort) (goes_file a path b (file_at i path))

goes_call : (i : Image) (a : ActorState) (n : ℕ) → GoesCall i a n (serves i a n)
unfolding serves
goes_call i a n =
    goes_at i a (exit a) _ n 0 (n == 0) refl refl (goes_end a (end_.Exited (a0 a)))
    (goes_at i a (create i a) _ n 1 (n == 1) refl refl (goes_create i a (slice_get a.drafts (a0 a)))
    (goes_at i a (join a) _ n 2 (n == 2) refl refl (goes_join a)
    (goes_at i a (tag_new a) _ n 3 (n == 3) refl refl (goes_tag_new a)
    (goes_at i a (tag_delete a) _ n 4 (n == 4) refl refl (goes_delete a)
    (goes_at i a (smalloc a) _ n 5 (n == 5) refl refl (goes_smalloc a)
    (goes_at i a (sfree a) _ n 6 (n == 6) refl refl (goes_free a (slot_of (a0 a)))
    (goes_at i a (cgate_make i a) _ n 13 (n == 13) refl refl (goes_make i a (slice_get a.drafts (a0 a)))
    (goes_at i a (cgate a) _ n 14 (n == 14) refl refl (goes_enter a (gate_held a (a0 a)))
    (goes_at i a (fd_read a) _ n 15 (n == 15) refl refl (goes_read a)
    (goes_at i a (fd_append i a) _ n 16 (n == 16) refl refl (goes_append i a)
    (goes_at i a (fd_close a) _ n 17 (n == 17) refl refl (goes_close a)
    (goes_at i a (file_open i a) _ n 18 (n == 18) refl refl (goes_open i a (mode_asked (a2 a)) (path_in i a (a0 a) (a1 a))) (goes_draft i a n)))))))))))))

-- whether an instruction may make a gate
abbrev pub need_makes : ActorState → Need → Bool
need_makes a need.Call = a7 a == 13
need_makes a n = false

abbrev pub instr_makes : ActorState → Option Instr → Bool
instr_makes a None = false
instr_makes a (Some ins) = need_makes a (local ins a.hart).need

-- what an instruction costs beside its unit
abbrev pub need_price : Image → ActorState → Need → ℕ
need_price i a need.Call = call_price i a (a7 a)
need_price i a n = 0

abbrev pub instr_price : Image → ActorState → Option Instr → ℕ
instr_price i a None = 0
instr_price i a (Some ins) = need_price i a (local ins a.hart).need

pub goes_needed : (i : Image) (ins : Instr) (a : ActorState) (h : Hart) (n : Need) → Goes (need_price i a n) (need_makes a n) a (step_with_need i ins a h n)
goes_needed i ins a h need.Done = record { name = refl; compartment = refl; run_of = refl; sheet = refl; fuel = costs_nothing a.fuel; made = refl; labels = refl; starts = refl; unjoined = refl; live = λ h. h; calm = λ h. h; unmade = λ h. h }
goes_needed i ins a h (need.Load address width s) = goes_load i ins s a address width
goes_needed i ins a h (need.Store address width value) = goes_store i a address width value
goes_needed i ins a h need.Call = goes_call i a (a7 a)
goes_needed i ins a h need.Break = goes_end a end_.Break
goes_needed i ins a h need.JumpMisaligned = goes_end a end_.JumpMisaligned

pub goes_executed : (i : Image) (a : ActorState) (ins : Option Instr) → Goes (instr_price i a ins) (instr_makes a ins) a (step_with_instr i a ins)
goes_executed i a None = goes_end a end_.BadInstruction
goes_executed i a (Some ins) = let b = local ins a.hart in goes_needed i ins a b.hart b.need

-- what an actor made but for its gates is as before
but_gates_same : (t : Bool) (a b : ActorState) → things t b ≡ things t a → but_gates b.made ≡ but_gates a.made
but_gates_same true a b same = ap (λ (x : Things). x.made) same
but_gates_same false a b same = ap (λ (x : Things). but_gates x.made) same

-- an end that is decided
abbrev pub IsEnding : Phase → Type 0
IsEnding phase.Running = ⊥
IsEnding (phase.Within q) = ⊥
IsEnding (phase.Starting pre) = ⊥
IsEnding (phase.MakingGate pre) = ⊥
IsEnding (phase.Opening slot tag) = ⊥
IsEnding (phase.Releasing slot) = ⊥
IsEnding (phase.Entering entrance) = ⊥
IsEnding (phase.Waiting number) = ⊥
IsEnding (phase.OpeningFile o) = ⊥
IsEnding (phase.Ending e) = Unit {0}
IsEnding (phase.Ended e) = ⊥

-- one instruction: it takes fuel, or there was nothing to execute and the actor's end is decided
pub record Steps (a b : ActorState) : Type 0 where
  pub name : b.name ≡ a.name
  pub compartment : b.compartment ≡ a.compartment
  pub run_of : b.run_of ≡ a.run_of
  pub sheet : b.sheet ≡ a.sheet
  pub spent : (b.fuel < a.fuel) ⊎ ((b.fuel ≡ a.fuel) × IsEnding b.phase)
  pub made : but_gates b.made ≡ but_gates a.made
  pub labels : b.labels ≡ a.labels
  pub starts : b.starts ≡ a.starts
  pub unjoined : b.unjoined ≡ a.unjoined
  pub live : has_ended a.phase ≡ false → has_ended b.phase ≡ false
  pub calm : IsCalm a.phase → IsCalm b.phase

steps_fuelled : (i : Image) (a : ActorState) (word n : ℕ) → a.fuel ≡ n → Steps a (step_with_fuel i a word n)
steps_fuelled i a word zero e = record { name = refl; compartment = refl; run_of = refl; sheet = refl; spent = inr (refl, tt); made = refl; labels = refl; starts = refl; unjoined = refl; live = λ h. refl; calm = λ h. tt }
steps_fuelled i a word (suc n) e =
    let g = goes_executed i (spends a 1) (decode word) in
    record { name = g.name; compartment = g.compartment; run_of = g.run_of; sheet = g.sheet; spent = inl (omega (arith, g.fuel, e)); made = but_gates_same (instr_makes (spends a 1) (decode word)) (spends a 1) _ g.made; labels = g.labels; starts = g.starts; unjoined = g.unjoined; live = g.live; calm = g.calm }

steps_fetched : (i : Image) (a : ActorState) (word : Option ℕ) → Steps a (step_with_word i a word)
steps_fetched i a None = record { name = refl; compartment = refl; run_of = refl; sheet = refl; spent = inr (refl, tt); made = refl; labels = refl; starts = refl; unjoined = refl; live = λ h. refl; calm = λ h. tt }
steps_fetched i a (Some word) = steps_fuelled i a word a.fuel refl

pub steps_step : (i : Image) (a : ActorState) → Steps a (step i a)
unfolding step
steps_step i a = steps_fetched i a (fetch i a.hart.pc)

-- what an actor wants it has paid for
abbrev pub HasPaid : ℕ → ℕ → Phase → Type 0
HasPaid before after phase.Running = after ≤ before
HasPaid before after (phase.Within q) = after < before
HasPaid before after (phase.Starting pre) = after < before
HasPaid before after (phase.MakingGate pre) = after < before
HasPaid before after (phase.Opening slot tag) = after < before
HasPaid before after (phase.Releasing slot) = after < before
HasPaid before after (phase.Entering entrance) = after < before
HasPaid before after (phase.Waiting number) = after < before
HasPaid before after (phase.OpeningFile o) = after < before
HasPaid before after (phase.Ending e) = after ≤ before
HasPaid before after (phase.Ended e) = after ≤ before

-- from an actor that runs to where it rests
pub record Rests (a b : ActorState) : Type 0 where
  pub name : b.name ≡ a.name
  pub compartment : b.compartment ≡ a.compartment
  pub run_of : b.run_of ≡ a.run_of
  pub sheet : b.sheet ≡ a.sheet
  pub paid : HasPaid a.fuel b.fuel b.phase
  pub made : but_gates b.made ≡ but_gates a.made
  pub labels : b.labels ≡ a.labels
  pub starts : b.starts ≡ a.starts
  pub unjoined : b.unjoined ≡ a.unjoined
  pub live : has_ended b.phase ≡ false
  pub calm : IsCalm b.phase

paid_less : (before mid after : ℕ) (p : Phase) → mid ≤ before → HasPaid mid after p → HasPaid before after p
paid_less before mid after phase.Running le h = omega arith
paid_less before mid after (phase.Within q) le h = omega arith
paid_less before mid after (phase.Starting pre) le h = omega arith
paid_less before mid after (phase.MakingGate pre) le h = omega arith
paid_less before mid after (phase.Opening slot tag) le h = omega arith
paid_less before mid after (phase.Releasing slot) le h = omega arith
paid_less before mid after (phase.Entering entrance) le h = omega arith
paid_less before mid after (phase.Waiting number) le h = omega arith
paid_less before mid after (phase.OpeningFile o) le h = omega arith
paid_less before mid after (phase.Ending e) le h = omega arith
paid_less before mid after (phase.Ended e) le h = omega arith

paid_step : (before after : ℕ) (p : Phase) → (after < before) ⊎ ((after ≡ before) × IsEnding p) → HasPaid before after p
paid_step before after phase.Running (inl lt) = omega arith
paid_step before after phase.Running (inr h) = absurd h.1
paid_step before after (phase.Within q) (inl lt) = lt
paid_step before after (phase.Within q) (inr h) = absurd h.1
paid_step before after (phase.Starting pre) (inl lt) = lt
paid_step before after (phase.MakingGate pre) (inl lt) = lt
paid_step before after (phase.Starting pre) (inr h) = absurd h.1
paid_step before after (phase.MakingGate pre) (inr h) = absurd h.1
paid_step before after (phase.Opening slot tag) (inl lt) = lt
paid_step before after (phase.Opening slot tag) (inr h) = absurd h.1
paid_step before after (phase.Releasing slot) (inl lt) = lt
paid_step before after (phase.Entering entrance) (inl lt) = lt
paid_step before after (phase.Waiting number) (inl lt) = lt
paid_step before after (phase.OpeningFile o) (inl lt) = lt
paid_step before after (phase.Releasing slot) (inr h) = absurd h.1
paid_step before after (phase.Entering entrance) (inr h) = absurd h.1
paid_step before after (phase.Waiting number) (inr h) = absurd h.1
paid_step before after (phase.OpeningFile o) (inr h) = absurd h.1
paid_step before after (phase.Ending e) (inl lt) = omega arith
paid_step before after (phase.Ending e) (inr h) = omega arith
paid_step before after (phase.Ended e) (inl lt) = omega arith
paid_step before after (phase.Ended e) (inr h) = absurd h.1

spent_le : (before after : ℕ) (p : Phase) → (after < before) ⊎ ((after ≡ before) × IsEnding p) → after ≤ before
spent_le before after p (inl lt) = omega arith
spent_le before after p (inr h) = omega arith

-- an actor that does not run stays as it is
pub stays : (i : Image) (n : ℕ) (a : ActorState) → is_running a.phase ≡ false → run_local i n a ≡ a
unfolding run_local
stays i zero a e = refl
stays i (suc n) a e = ap (λ b. elim b [ true ↦ run_local i n (step i a) | false ↦ a ]) e

pub goes_on : (i : Image) (n : ℕ) (a : ActorState) → is_running a.phase ≡ true → run_local i (suc n) a ≡ run_local i n (step i a)
unfolding run_local
goes_on i n a e = ap (λ b. elim b [ true ↦ run_local i n (step i a) | false ↦ a ]) e

pub running_is : (p : Phase) → is_running p ≡ true → p ≡ phase.Running
running_is phase.Running e = refl
running_is (phase.Within q) e = cc
running_is (phase.Starting pre) e = cc
running_is (phase.MakingGate pre) e = cc
running_is (phase.Opening slot tag) e = cc
running_is (phase.Releasing slot) e = cc
running_is (phase.Entering entrance) e = cc
running_is (phase.Waiting number) e = cc
running_is (phase.OpeningFile o) e = cc
running_is (phase.Ending x) e = cc
running_is (phase.Ended x) e = cc

running_live : (p : Phase) → is_running p ≡ true → has_ended p ≡ false
running_live phase.Running e = refl
running_live (phase.Within q) e = refl
running_live (phase.Starting pre) e = refl
running_live (phase.MakingGate pre) e = refl
running_live (phase.Opening slot tag) e = refl
running_live (phase.Releasing slot) e = refl
running_live (phase.Entering entrance) e = refl
running_live (phase.Waiting number) e = refl
running_live (phase.OpeningFile o) e = refl
running_live (phase.Ending x) e = refl
running_live (phase.Ended x) e = cc

running_calm : (p : Phase) → is_running p ≡ true → IsCalm p
running_calm phase.Running e = tt
running_calm (phase.Within q) e = tt
running_calm (phase.Starting pre) e = absurd cc
running_calm (phase.MakingGate pre) e = tt
running_calm (phase.Opening slot tag) e = absurd cc
running_calm (phase.Releasing slot) e = absurd cc
running_calm (phase.Entering entrance) e = tt
running_calm (phase.Waiting number) e = absurd cc
running_calm (phase.OpeningFile o) e = absurd cc
running_calm (phase.Ending x) e = tt
running_calm (phase.Ended x) e = tt

rests_from : (i : Image) (n : ℕ) (a : ActorState) (b : Bool) → is_running a.phase ≡ b → Rests a (run_local i n a) ⊎ (a ≡ run_local i n a)
rests_from i n a false e = inr (sym (stays i n a e))
rests_from i zero a true e = inr (unfold run_local in refl)
rests_from i (suc n) a true e =
    let s = steps_step i a in
    let b = step i a in
    let le : b.fuel ≤ a.fuel = spent_le a.fuel b.fuel b.phase s.spent in
    rw (goes_on i n a e) (inl (
    elim (rests_from i n b _ refl) [
      | inl r ↦ record { name = r.name ∙ s.name; compartment = r.compartment ∙ s.compartment; run_of = r.run_of ∙ s.run_of; sheet = r.sheet ∙ s.sheet; made = r.made ∙ s.made; labels = r.labels ∙ s.labels; starts = r.starts ∙ s.starts; unjoined = r.unjoined ∙ s.unjoined; paid = paid_less a.fuel b.fuel _ _ le r.paid; live = r.live; calm = r.calm }
      | inr same ↦ subst (Rests a) same (record { name = s.name; compartment = s.compartment; run_of = s.run_of; sheet = s.sheet; made = s.made; labels = s.labels; starts = s.starts; unjoined = s.unjoined; paid = paid_step a.fuel b.fuel b.phase s.spent; live = s.live (running_live a.phase e); calm = s.calm (running_calm a.phase e) })
    ]))

-- an actor that runs rests paid
paid_running : (f : ℕ) (p : Phase) → is_running p ≡ true → HasPaid f f p
paid_running f phase.Running e = omega arith
paid_running f (phase.Within q) e = cc
paid_running f (phase.Starting pre) e = cc
paid_running f (phase.MakingGate pre) e = cc
paid_running f (phase.Opening slot tag) e = cc
paid_running f (phase.Releasing slot) e = cc
paid_running f (phase.Entering entrance) e = cc
paid_running f (phase.Waiting number) e = cc
paid_running f (phase.OpeningFile o) e = cc
paid_running f (phase.Ending x) e = omega arith
paid_running f (phase.Ended x) e = omega arith

pub rests : (i : Image) (a : ActorState) → is_running a.phase ≡ true → Rests a (rest i a)
unfolding rest
rests i a e =
    elim (rests_from i (a.fuel + 1) a true e) [
      | inl r ↦ r
      | inr same ↦ subst (Rests a) same (record { name = refl; compartment = refl; run_of = refl; sheet = refl; made = refl; labels = refl; starts = refl; unjoined = refl; paid = paid_running a.fuel a.phase e; live = running_live a.phase e; calm = running_calm a.phase e })
    ]

pub rest-stays : (i : Image) (a : ActorState) → is_running a.phase ≡ false → rest i a ≡ a
unfolding rest
rest-stays i a e = stays i (a.fuel + 1) a e

-- an event that is still to come of a call was to come before
pub rest-uncalm : (i : Image) (a : ActorState) (p : Phase) → (IsCalm p → ⊥) → (rest i a).phase ≡ p → a.phase ≡ p
rest-uncalm i a p uncalm is = by_running (is_running a.phase) refl
  where
    by_running : (t : Bool) → is_running a.phase ≡ t → a.phase ≡ p
    by_running true e = absurd (uncalm (subst IsCalm is (rests i a e).calm))
    by_running false e = ap (λ (x : ActorState). x.phase) (sym (rest-stays i a e)) ∙ is

-- at rest an actor does not run
ending_stops : (p : Phase) → IsEnding p → is_running p ≡ false
ending_stops phase.Running h = absurd h
ending_stops (phase.Within q) h = refl
ending_stops (phase.Starting pre) h = refl
ending_stops (phase.MakingGate pre) h = refl
ending_stops (phase.Opening slot tag) h = refl
ending_stops (phase.Releasing slot) h = refl
ending_stops (phase.Entering entrance) h = refl
ending_stops (phase.Waiting number) h = refl
ending_stops (phase.OpeningFile o) h = refl
ending_stops (phase.Ending e) h = refl
ending_stops (phase.Ended e) h = refl

stops_from : (i : Image) (n : ℕ) (a : ActorState) (b : Bool) → is_running a.phase ≡ b → a.fuel < n → is_running (run_local i n a).phase ≡ false
stops_from i n a false e lt = rw (stays i n a e) e
stops_from i zero a true e lt = absurd (omega arith)
stops_from i (suc n) a true e lt =
    let s = steps_step i a in
    rw (goes_on i n a e) (elim s.spent [
      | inl less ↦ stops_from i n (step i a) _ refl (omega arith)
      | inr h ↦ rw (stays i n (step i a) (ending_stops _ h.1)) (ending_stops _ h.1)
    ])

pub rest-stops : (i : Image) (a : ActorState) → is_running (rest i a).phase ≡ false
unfolding rest
rest-stops i a = stops_from i (a.fuel + 1) a _ refl (omega arith)

-- rest keeps the name, whether the actor has ended, and the paths of the files that it opened
kept_by : (i : Image) (a : ActorState) (t : Bool) → is_running a.phase ≡ t → ((rest i a).name ≡ a.name) × (has_ended (rest i a).phase ≡ has_ended a.phase) × ((rest i a).labels ≡ a.labels)
kept_by i a true e = let r = rests i a e in (r.name, r.live ∙ sym (running_live a.phase e), r.labels)
kept_by i a false e = let same = rest-stays i a e in (ap (λ x. x.name) same, ap (λ x. has_ended x.phase) same, ap (λ x. x.labels) same)

pub rest-name : (i : Image) (a : ActorState) → (rest i a).name ≡ a.name
rest-name i a = (kept_by i a _ refl).0

pub rest-ended : (i : Image) (a : ActorState) → has_ended (rest i a).phase ≡ has_ended a.phase
rest-ended i a = (kept_by i a _ refl).1

pub rest-labels : (i : Image) (a : ActorState) → (rest i a).labels ≡ a.labels
rest-labels i a = (kept_by i a _ refl).2

ended_stops : (p : Phase) → has_ended p ≡ true → is_running p ≡ false
ended_stops phase.Running e = cc
ended_stops (phase.Within q) e = refl
ended_stops (phase.Starting pre) e = refl
ended_stops (phase.MakingGate pre) e = refl
ended_stops (phase.Opening slot tag) e = refl
ended_stops (phase.Releasing slot) e = refl
ended_stops (phase.Entering entrance) e = refl
ended_stops (phase.Waiting number) e = refl
ended_stops (phase.OpeningFile o) e = refl
ended_stops (phase.Ending x) e = refl
ended_stops (phase.Ended x) e = refl

-- an actor that has ended does nothing more
pub ended-stays : (i : Image) (a : ActorState) → has_ended a.phase ≡ true → rest i a ≡ a
ended-stays i a e = rest-stays i a (ended_stops a.phase e)

-- a step more or less, of those that are left, changes nothing
enough : (i : Image) (n m : ℕ) (a : ActorState) (b : Bool) → is_running a.phase ≡ b → a.fuel < n → a.fuel < m → run_local i n a ≡ run_local i m a
enough i n m a false e ln lm = stays i n a e ∙ sym (stays i m a e)
enough i zero m a true e ln lm = absurd (omega arith)
enough i (suc n) zero a true e ln lm = absurd (omega arith)
enough i (suc n) (suc m) a true e ln lm =
    let s = steps_step i a in
    let next : run_local i n (step i a) ≡ run_local i m (step i a) = elim s.spent [
      | inl less ↦ enough i n m (step i a) _ refl (omega arith) (omega arith)
      | inr h ↦ stays i n (step i a) (ending_stops _ h.1) ∙ sym (stays i m (step i a) (ending_stops _ h.1))
    ] in
    goes_on i n a e ∙ next ∙ sym (goes_on i m a e)

-- an actor that runs comes to rest where it does after its next step
pub rest-step : (i : Image) (a : ActorState) → is_running a.phase ≡ true → rest i (step i a) ≡ rest i a
unfolding rest
rest-step i a e =
    let s = steps_step i a in
    let next : run_local i ((step i a).fuel + 1) (step i a) ≡ run_local i a.fuel (step i a) = elim s.spent [
      | inl less ↦ enough i ((step i a).fuel + 1) a.fuel (step i a) _ refl (omega arith) (omega arith)
      | inr h ↦ stays i ((step i a).fuel + 1) (step i a) (ending_stops _ h.1) ∙ sym (stays i a.fuel (step i a) (ending_stops _ h.1))
    ] in
    let one : a.fuel + 1 ≡ suc a.fuel = omega arith in
    next ∙ sym (ap (λ n. run_local i n a) one ∙ goes_on i a.fuel a e)

-- what an actor that runs has left to do
abbrev pub left : Phase → ℕ → ℕ
left phase.Running n = n + 1
left (phase.Within q) n = 0
left (phase.Starting pre) n = 0
left (phase.MakingGate pre) n = 0
left (phase.Opening slot tag) n = 0
left (phase.Releasing slot) n = 0
left (phase.Entering entrance) n = 0
left (phase.Waiting number) n = 0
left (phase.OpeningFile o) n = 0
left (phase.Ending e) n = 0
left (phase.Ended e) n = 0

left_ending : (p : Phase) (n : ℕ) → IsEnding p → left p n ≡ 0
left_ending phase.Running n h = absurd h
left_ending (phase.Within q) n h = refl
left_ending (phase.Starting pre) n h = refl
left_ending (phase.MakingGate pre) n h = refl
left_ending (phase.Opening slot tag) n h = refl
left_ending (phase.Releasing slot) n h = refl
left_ending (phase.Entering entrance) n h = refl
left_ending (phase.Waiting number) n h = refl
left_ending (phase.OpeningFile o) n h = refl
left_ending (phase.Ending e) n h = refl
left_ending (phase.Ended e) n h = refl

left_le : (p : Phase) (n : ℕ) → left p n ≤ n + 1
left_le phase.Running n = omega arith
left_le (phase.Within q) n = omega arith
left_le (phase.Starting pre) n = omega arith
left_le (phase.MakingGate pre) n = omega arith
left_le (phase.Opening slot tag) n = omega arith
left_le (phase.Releasing slot) n = omega arith
left_le (phase.Entering entrance) n = omega arith
left_le (phase.Waiting number) n = omega arith
left_le (phase.OpeningFile o) n = omega arith
left_le (phase.Ending e) n = omega arith
left_le (phase.Ended e) n = omega arith

left_running : (p : Phase) (n : ℕ) → is_running p ≡ true → left p n ≡ n + 1
left_running p n e = ap (λ q. left q n) (running_is p e)

pub step_less : (i : Image) (a : ActorState) → is_running a.phase ≡ true → left (step i a).phase (step i a).fuel < left a.phase a.fuel
step_less i a e =
    let s = steps_step i a in
    let before = left_running a.phase a.fuel e in
    elim s.spent [
      | inl less ↦ omega (arith, before, left_le (step i a).phase (step i a).fuel)
      | inr h ↦ omega (arith, before, left_ending (step i a).phase (step i a).fuel h.1)
    ]

-- coming to rest twice is coming to rest once
pub rest_rest : (i : Image) (a : ActorState) → rest i (rest i a) ≡ rest i a
rest_rest i a = rest-stays i (rest i a) (rest-stops i a)
