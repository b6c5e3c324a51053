-- How an actor goes on: after an instruction that needs something, and after an event.
use Rattle.std.proofs.Common.{◌≡◌, ℕ, zero, suc, ◌-◌, Bool, true, false, List, refl, sym, ap, subst, ◌∙◌, arith, ◌∷◌, []}
use Rattle.std.specs.Prelude.{Option, Some, None, option_and_then, IsSomeAnd, not, ◌==◌, nat_lt, nat_le, if◌then◌else◌, length, slice_get}
use Rattle.wedge_base.specs.Images.{Image, fetch, in_text, read_text, slot_of}
use Rattle.wedge_base.specs.Bytes.{number_of}
use Rattle.wedge_base.specs.Memory.{range_at}
use Rattle.wedge_events.specs.Streams.{most_fds}
use Rattle.wedge_base.specs.declared.address.Place.{Place}
use Rattle.wedge_base.specs.declared.image.MemoryRange.{MemoryRange}
use Rattle.wedge_base.specs.declared.rights.End.{End}
use Rattle.wedge_base.specs.declared.rights.End.TheVariants as end_
use Rattle.wedge_base.specs.declared.rights.Code.TheVariants as code
use Rattle.rv_isa.specs.declared.Instr.{Instr}
use Rattle.rv_isa.specs.Table.{decode}
use Rattle.rv_hart.specs.declared.Hart.{Hart}
use Rattle.rv_hart.specs.declared.Need.{Need}
use Rattle.rv_hart.specs.declared.Need.TheVariants as need
use Rattle.rv_hart.specs.Local.{local, next_pc}
use Rattle.machine.specs.declared.phase.Phase.{Phase}
use Rattle.machine.specs.declared.phase.Phase.TheVariants as phase
use Rattle.wedge_base.specs.Files.{may_open}
use Rattle.wedge_base.specs.declared.image.FileEntry.{FileEntry}
use Rattle.machine.specs.Actors.{ActorState, right_of, denies, ends, refuses, gate_held}
use Rattle.cow_pages.specs.Copies.{copy_at, holds_copy, read_copy}
use Rattle.machine.specs.Accesses.{loads, stores, load_bytes, load_copy, load_window, load_range, store_copy, store_window, store_range, has_loaded, fits_read, fits_write}
use Rattle.wedge_base.specs.Names.{most_parts}
use Rattle.wedge_base.specs.Sheets.{Draft, takes_tag, takes_fd, takes_gate, first_excess}
use Rattle.wedge_base.specs.Maps.{has}
use Rattle.wedge_base.specs.Rights.{at_least}
use Rattle.wedge_base.specs.declared.rights.Denial.{Denial}
use Rattle.wedge_base.specs.declared.rights.Denial.TheVariants as denial
use Rattle.wedge_base.specs.declared.rights.Right.TheVariants as right
use Rattle.wedge_base.specs.declared.rights.FdBits.{FdBits}
use Rattle.wedge_base.specs.declared.rights.Right.{Right}
use Rattle.machine.specs.Children.{is_child}
use Rattle.machine.specs.Calls.{entrance_of, serves, exit, is_procedure, create, create_with, create_checked, create_allowed, join, are_pages, tag_new, tag_delete, smalloc, free_at, sfree, fd_read, fd_append, fd_close, most_drafts, sc_new, right_asked, bits_asked, add_right, add_right_to, sc_mem_add, add_bits, add_bits_to, sc_fd_add, add_gate_to, sc_cgate_add, draft_call, a0, a1, a2, a3, a7, set_user, sc_user, path_in, put_root, set_root, sc_root, file_at, mode_asked, suits, open_file, open_path, file_open, makes_or_waits, may_be_gate, make_checked, make_with, cgate_make, enter_checked, enter_lending, enter_held, cgate, lent_asked}
use Rattle.machine.specs.Local.{step_with_need, step_with_instr, step_with_fuel, step_with_word, step, is_running}
use Rattle.machine.specs.Worlds.{WorldState, actor_named, put_actor, with_actor}
use Rattle.run_laws.specs.Allowed.{next_word}
use Rattle.run_laws.specs.Ends.{GoesTo, NeedGoesOn, WordGoesOn, GoesOn}
use Rattle.run_laws.proofs.Named.{put_put, named_put}
use Rattle.machine.specs.Preparation.{Preparation}
use Rattle.machine.specs.declared.copy_grant.CopyGrant.{CopyGrant}
use Rattle.machine.specs.Entering.{may_lend, excess_lent}
use Rattle.machine.specs.Entrance.{Entrance}
use Rattle.callgate.specs.declared.gate.Gate.{Gate}

-- if it runs it is at the next word, and if not its hart is as it was
abbrev pub IsNext : Hart → ActorState → Type 0
IsNext h x = (is_running x.phase ≡ true → x.hart.pc ≡ next_pc h.pc) × (is_running x.phase ≡ false → x.hart ≡ h)

next_if : (h0 : Hart) (x y : ActorState) (t : Bool) → IsNext h0 x → IsNext h0 y → IsNext h0 (if t then x else y)
next_if h0 x y true h k = h
next_if h0 x y false h k = k

runs_not : {X : Type 0} (p : Phase) → p ≡ phase.Running → is_running p ≡ false → X
runs_not p run e = let both : true ≡ false = sym (ap is_running run) ∙ e in absurd cc

next_load_bytes : (ins : Instr) (s : Bool) (a : ActorState) (width : ℕ) (o : Option (List ℕ)) → a.phase ≡ phase.Running → IsNext a.hart (load_bytes ins s a width o)
next_load_bytes ins s a width None run = (λ e. absurd cc, λ e. refl)
next_load_bytes ins s a width (Some bytes) run = (λ e. refl, runs_not a.phase run)

next_load_copy : (ins : Instr) (s : Bool) (a : ActorState) (width : ℕ) (p : Place) (o : Option (List ℕ)) → a.phase ≡ phase.Running → IsNext a.hart (load_copy ins s a width p o)
next_load_copy ins s a width p None run = (λ e. absurd cc, λ e. refl)
next_load_copy ins s a width p (Some bytes) run = next_load_bytes ins s a width (read_copy p.offset width bytes) run

next_load_window : (ins : Instr) (s : Bool) (a : ActorState) (width : ℕ) (p : Option Place) → a.phase ≡ phase.Running → IsNext a.hart (load_window ins s a width p)
next_load_window ins s a width None run = (λ e. absurd cc, λ e. refl)
next_load_window ins s a width (Some p) run = next_load_copy ins s a width p (copy_at a.memory.copies p.slot) run

next_load_range : (ins : Instr) (s : Bool) (a : ActorState) (address width : ℕ) (r : Option MemoryRange) → a.phase ≡ phase.Running → IsNext a.hart (load_range ins s a address width r)
next_load_range ins s a address width (Some r) run = (λ e. refl, runs_not a.phase run)
next_load_range ins s a address width None run = next_load_window ins s a width (slot_of address) run

next_load : (i : Image) (ins : Instr) (s : Bool) (a : ActorState) (address width : ℕ) → a.phase ≡ phase.Running → IsNext a.hart (loads i ins s a address width)
next_load i ins s a address width run =
    next_if a.hart (ends a end_.Misaligned) _ _ (λ e. absurd cc, λ e. refl)
    (next_if a.hart (has_loaded ins s a width (number_of (read_text i address width))) _ (in_text i address width) (λ e. refl, runs_not a.phase run) (next_load_range ins s a address width (range_at a.memory.ranges address width) run))

next_store_copy : (a : ActorState) (width value : ℕ) (p : Place) (o : Option (List ℕ)) → a.phase ≡ phase.Running → IsNext a.hart (store_copy a width value p o)
next_store_copy a width value p None run = (λ e. absurd cc, λ e. refl)
next_store_copy a width value p (Some bytes) run =
    next_if a.hart _ (ends a end_.Unmapped) (holds_copy p.offset width bytes) (λ e. refl, runs_not a.phase run) (λ e. absurd cc, λ e. refl)

next_store_window : (a : ActorState) (width value : ℕ) (p : Option Place) → a.phase ≡ phase.Running → IsNext a.hart (store_window a width value p)
next_store_window a width value None run = (λ e. absurd cc, λ e. refl)
next_store_window a width value (Some p) run = next_store_copy a width value p (copy_at a.memory.copies p.slot) run

next_store_range : (a : ActorState) (address width value : ℕ) (r : Option MemoryRange) → a.phase ≡ phase.Running → IsNext a.hart (store_range a address width value r)
next_store_range a address width value (Some r) run = (λ e. refl, runs_not a.phase run)
next_store_range a address width value None run = next_store_window a width value (slot_of address) run

next_store : (i : Image) (a : ActorState) (address width value : ℕ) → a.phase ≡ phase.Running → IsNext a.hart (stores i a address width value)
next_store i a address width value run =
    next_if a.hart (ends a end_.Misaligned) _ _ (λ e. absurd cc, λ e. refl)
    (next_if a.hart (ends a end_.TextStore) _ (in_text i address width) (λ e. absurd cc, λ e. refl) (next_store_range a address width value (range_at a.memory.ranges address width) run))

next_append : (i : Image) (a : ActorState) → IsNext a.hart (fd_append i a)
next_append i a =
    next_if a.hart (refuses a code.Bad) _ (not (fits_read i a (a1 a) (a2 a))) (λ e. refl, λ e. absurd cc)
    (next_if a.hart (refuses a code.FuelShort) _ (nat_lt a.fuel (a2 a)) (λ e. refl, λ e. absurd cc)
    (next_if a.hart (refuses a code.NoSuch) _ (nat_le most_fds (a0 a)) (λ e. refl, λ e. absurd cc) (λ e. absurd cc, λ e. refl)))

next_read : (a : ActorState) → IsNext a.hart (fd_read a)
next_read a =
    next_if a.hart (refuses a code.Bad) _ (not (fits_write a (a1 a) (a2 a))) (λ e. refl, λ e. absurd cc)
    (next_if a.hart (refuses a code.FuelShort) _ (nat_lt a.fuel (a2 a)) (λ e. refl, λ e. absurd cc)
    (next_if a.hart (refuses a code.NoSuch) _ (nat_le most_fds (a0 a)) (λ e. refl, λ e. absurd cc) (λ e. absurd cc, λ e. refl)))

next_right : (a : ActorState) (d : Draft) (r : Option Right) → IsNext a.hart (add_right a d r)
next_right a d None = (λ e. refl, λ e. absurd cc)
next_right a d (Some r) = next_if a.hart _ (refuses a code.Full) (takes_tag d (a1 a)) (λ e. refl, λ e. absurd cc) (λ e. refl, λ e. absurd cc)

next_right_to : (a : ActorState) (d : Option Draft) → IsNext a.hart (add_right_to a d)
next_right_to a None = (λ e. refl, λ e. absurd cc)
next_right_to a (Some d) = next_right a d (right_asked (a2 a))

next_bits : (a : ActorState) (d : Draft) (b : Option FdBits) → IsNext a.hart (add_bits a d b)
next_bits a d None = (λ e. refl, λ e. absurd cc)
next_bits a d (Some b) = next_if a.hart _ (refuses a code.Full) (takes_fd d (a1 a)) (λ e. refl, λ e. absurd cc) (λ e. refl, λ e. absurd cc)

next_bits_to : (a : ActorState) (d : Option Draft) → IsNext a.hart (add_bits_to a d)
next_bits_to a None = (λ e. refl, λ e. absurd cc)
next_bits_to a (Some d) = next_bits a d (bits_asked (a2 a))

next_gate : (i : Image) (a : ActorState) (d : Option Draft) → IsNext a.hart (add_gate_to i a d)
next_gate i a None = (λ e. refl, λ e. absurd cc)
next_gate i a (Some d) =
    next_if a.hart (refuses a code.Bad) _ (not (is_procedure i (a1 a))) (λ e. refl, λ e. absurd cc)
    (next_if a.hart _ (refuses a code.Full) (takes_gate d (a1 a)) (λ e. refl, λ e. absurd cc) (λ e. refl, λ e. absurd cc))

next_user : (a : ActorState) (d : Option Draft) → IsNext a.hart (set_user a d)
next_user a None = (λ e. refl, λ e. absurd cc)
next_user a (Some d) = (λ e. refl, λ e. absurd cc)

next_path : (a : ActorState) (d : Draft) (path : Option (List ℕ)) → IsNext a.hart (put_root a d path)
next_path a d None = (λ e. refl, λ e. absurd cc)
next_path a d (Some path) = next_if a.hart (refuses a code.FuelShort) _ (nat_lt a.fuel (a2 a)) (λ e. refl, λ e. absurd cc) (λ e. refl, λ e. absurd cc)

next_root : (a : ActorState) (path : Option (List ℕ)) (d : Option Draft) → IsNext a.hart (set_root a path d)
next_root a path None = (λ e. refl, λ e. absurd cc)
next_root a path (Some d) = next_path a d path

next_draft : (i : Image) (a : ActorState) (n : ℕ) → IsNext a.hart (draft_call i a n)
next_draft i a n =
    next_if a.hart (sc_new a) _ (n == 7) (next_if a.hart (refuses a code.Full) _ (nat_le most_drafts (length a.drafts)) (λ e. refl, λ e. absurd cc) (λ e. refl, λ e. absurd cc))
    (next_if a.hart (sc_mem_add a) _ (n == 8) (next_right_to a (slice_get a.drafts (a0 a)))
    (next_if a.hart (sc_fd_add a) _ (n == 9) (next_bits_to a (slice_get a.drafts (a0 a)))
    (next_if a.hart (sc_cgate_add i a) _ (n == 10) (next_gate i a (slice_get a.drafts (a0 a)))
    (next_if a.hart (sc_user a) _ (n == 11) (next_user a (slice_get a.drafts (a0 a)))
    (next_if a.hart (sc_root i a) _ (n == 12) (next_root a (path_in i a (a1 a) (a2 a)) (slice_get a.drafts (a0 a))) (λ e. refl, λ e. absurd cc))))))

next_made : (a : ActorState) (d : Draft) (p : Preparation) (gs : List CopyGrant) → IsNext a.hart (makes_or_waits a d p gs)
next_made a d p [] = (λ e. refl, λ e. absurd cc)
next_made a d p (g ∷ gs) = (λ e. absurd cc, λ e. refl)

next_make_checked : (i : Image) (a : ActorState) (d : Draft) (o : Option Denial) → IsNext a.hart (make_checked i a d o)
next_make_checked i a d (Some x) = (λ e. refl, λ e. absurd cc)
next_make_checked i a d None = next_made a d _ _

next_make : (i : Image) (a : ActorState) (d : Option Draft) → IsNext a.hart (make_with i a d)
next_make i a None = (λ e. refl, λ e. absurd cc)
next_make i a (Some d) = next_if a.hart (refuses a code.Bad) _ (not (may_be_gate i a d)) (λ e. refl, λ e. absurd cc) (next_make_checked i a d (first_excess a.sheet a.made d))

next_to_gate : (a : ActorState) (x : Entrance) → IsNext a.hart (record a { phase = phase.Entering x })
next_to_gate a x = (λ e. absurd cc, λ e. refl)

next_entry : (a : ActorState) (g : Gate) (lent : Option Draft) (d : Option Denial) → IsNext a.hart (enter_checked a g lent d)
next_entry a g lent (Some d) = (λ e. refl, λ e. absurd cc)
next_entry a g lent None =
    next_if a.hart (refuses a code.Deep) _ (nat_le most_parts (length a.name)) (λ e. refl, λ e. absurd cc)
    (next_if a.hart (refuses a code.FuelShort) _ (nat_lt a.fuel g.fuel) (λ e. refl, λ e. absurd cc) (next_to_gate a (entrance_of a g lent)))

next_lending : (a : ActorState) (g : Gate) (lent : Option (Option Draft)) → IsNext a.hart (enter_lending a g lent)
next_lending a g None = (λ e. refl, λ e. absurd cc)
next_lending a g (Some lent) = next_if a.hart (refuses a code.Bad) _ (not (may_lend lent)) (λ e. refl, λ e. absurd cc) (next_entry a g lent (excess_lent a lent))

next_enter : (a : ActorState) (g : Option Gate) → IsNext a.hart (enter_held a g)
next_enter a None = (λ e. refl, λ e. absurd cc)
next_enter a (Some g) = next_lending a g (lent_asked a.drafts (a2 a))

next_allowed : (a : ActorState) → IsNext a.hart (create_allowed a)
next_allowed a =
    next_if a.hart (refuses a code.Deep) _ (nat_le most_parts (length a.name)) (λ e. refl, λ e. absurd cc)
    (next_if a.hart (refuses a code.FuelShort) _ (nat_lt a.fuel (a3 a)) (λ e. refl, λ e. absurd cc) (λ e. absurd cc, λ e. refl))

next_checked : (a : ActorState) (d : Option Denial) → IsNext a.hart (create_checked a d)
next_checked a None = next_allowed a
next_checked a (Some d) = (λ e. refl, λ e. absurd cc)

next_create : (i : Image) (a : ActorState) (d : Option Draft) → IsNext a.hart (create_with i a d)
next_create i a None = (λ e. refl, λ e. absurd cc)
next_create i a (Some d) = next_if a.hart (refuses a code.Bad) _ (not (is_procedure i (a1 a))) (λ e. refl, λ e. absurd cc) (next_checked a (first_excess a.sheet a.made d))

next_join : (a : ActorState) → IsNext a.hart (join a)
next_join a = next_if a.hart _ (refuses a code.NoSuch) (is_child a.unjoined (a0 a)) (λ e. absurd cc, λ e. refl) (λ e. refl, λ e. absurd cc)

next_smalloc : (a : ActorState) → IsNext a.hart (smalloc a)
next_smalloc a =
    next_if a.hart (refuses a code.Bad) _ (a1 a == 0) (λ e. refl, λ e. absurd cc)
    (next_if a.hart _ (denies a (denial.Tag (a0 a) right.ReadWrite)) (at_least (right_of a (a0 a)) right.ReadWrite) (λ e. absurd cc, λ e. refl) (λ e. refl, λ e. absurd cc))

next_free : (a : ActorState) (p : Option Place) → IsNext a.hart (free_at a p)
next_free a None = (λ e. refl, λ e. absurd cc)
next_free a (Some p) = (λ e. absurd cc, λ e. refl)

next_file : (a : ActorState) (path : List ℕ) (b : FdBits) (f : Option FileEntry) → IsNext a.hart (open_file a path b f)
next_file a path b None = (λ e. refl, λ e. absurd cc)
next_file a path b (Some f) =
    next_if a.hart (denies a (denial.File path)) _ (not (may_open a.sheet.user f b)) (λ e. refl, λ e. absurd cc)
    (next_if a.hart (refuses a code.Bad) _ (not (suits f.kind b)) (λ e. refl, λ e. absurd cc) (λ e. absurd cc, λ e. refl))

next_open : (i : Image) (a : ActorState) (b : Option FdBits) (path : Option (List ℕ)) → IsNext a.hart (open_path i a b path)
next_open i a None path = (λ e. refl, λ e. absurd cc)
next_open i a (Some b) None = (λ e. refl, λ e. absurd cc)
next_open i a (Some b) (Some path) = next_if a.hart (refuses a code.FuelShort) _ (nat_lt a.fuel (a1 a)) (λ e. refl, λ e. absurd cc) (next_file a path b (file_at i path))

next_call : (i : Image) (a : ActorState) (n : ℕ) → IsNext a.hart (serves i a n)
unfolding serves
next_call i a n =
    next_if a.hart (exit a) _ (n == 0) (λ e. absurd cc, λ e. refl)
    (next_if a.hart (create i a) _ (n == 1) (next_create i a (slice_get a.drafts (a0 a)))
    (next_if a.hart (join a) _ (n == 2) (next_join a)
    (next_if a.hart (tag_new a) _ (n == 3) (next_if a.hart _ (refuses a code.Bad) (are_pages (a0 a)) (λ e. absurd cc, λ e. refl) (λ e. refl, λ e. absurd cc))
    (next_if a.hart (tag_delete a) _ (n == 4) (next_if a.hart _ (denies a (denial.NotMaker (a0 a))) (has a.made.tags (a0 a)) (λ e. absurd cc, λ e. refl) (λ e. refl, λ e. absurd cc))
    (next_if a.hart (smalloc a) _ (n == 5) (next_smalloc a)
    (next_if a.hart (sfree a) _ (n == 6) (next_free a (slot_of (a0 a)))
    (next_if a.hart (cgate_make i a) _ (n == 13) (next_make i a (slice_get a.drafts (a0 a)))
    (next_if a.hart (cgate a) _ (n == 14) (next_enter a (gate_held a (a0 a)))
    (next_if a.hart (fd_read a) _ (n == 15) (next_read a)
    (next_if a.hart (fd_append i a) _ (n == 16) (next_append i a)
    (next_if a.hart (fd_close a) _ (n == 17) (next_if a.hart (refuses a code.NoSuch) _ (nat_le most_fds (a0 a)) (λ e. refl, λ e. absurd cc) (λ e. absurd cc, λ e. refl))
    (next_if a.hart (file_open i a) _ (n == 18) (next_open i a (mode_asked (a2 a)) (path_in i a (a0 a) (a1 a))) (next_draft i a n)))))))))))))

-- the actor that was put is at the next word if it runs
pub put_next : (w : WorldState) (b x a : ActorState) → actor_named w.actors b.name ≡ Some a → x.name ≡ b.name → IsNext b.hart x
    → IsSomeAnd (actor_named (put_actor w.actors x) b.name) (GoesTo b (next_word b))
put_next w b x a named n h =
    let found = named_put w.actors x a (subst (λ m. actor_named w.actors m ≡ Some a) (sym n) named) in
    subst (λ m. IsSomeAnd (actor_named (put_actor w.actors x) m) (GoesTo b (next_word b))) n
    (subst (λ f. IsSomeAnd f (GoesTo b (next_word b))) (sym found) h)

named_as : (w : WorldState) (b p a : ActorState) → actor_named w.actors b.name ≡ Some a → p.name ≡ b.name → actor_named w.actors p.name ≡ Some a
named_as w b p a named pn = subst (λ m. actor_named w.actors m ≡ Some a) (sym pn) named

need_goes : (w : WorldState) (b p a : ActorState) (ins : Instr) (h : Hart) (n : Need) → actor_named w.actors b.name ≡ Some a → p.name ≡ b.name → (step_with_need w.image ins p h n).name ≡ b.name → p.phase ≡ phase.Running
    → NeedGoesOn (with_actor w b) p h n (with_actor w (step_with_need w.image ins p h n))
need_goes w b p a ins h need.Done named pn xn run = ap (λ (as_ : List ActorState). record w { actors = as_ }) (sym (put_put w.actors b (record p { hart = h }) pn))
need_goes w b p a ins h (need.Load address width s) named pn xn run = put_next w p (loads w.image ins s p address width) a (named_as w b p a named pn) (xn ∙ sym pn) (next_load w.image ins s p address width run)
need_goes w b p a ins h (need.Store address width value) named pn xn run = put_next w p (stores w.image p address width value) a (named_as w b p a named pn) (xn ∙ sym pn) (next_store w.image p address width value run)
need_goes w b p a ins h need.Call named pn xn run = put_next w p (serves w.image p (a7 p)) a (named_as w b p a named pn) (xn ∙ sym pn) (next_call w.image p (a7 p))
need_goes w b p a ins h need.Break named pn xn run = put_next w p (ends p end_.Break) a (named_as w b p a named pn) (xn ∙ sym pn) (λ e. absurd cc, λ e. refl)
need_goes w b p a ins h need.JumpMisaligned named pn xn run = put_next w p (ends p end_.JumpMisaligned) a (named_as w b p a named pn) (xn ∙ sym pn) (λ e. absurd cc, λ e. refl)

instr_goes : (w : WorldState) (b a : ActorState) (ins : Option Instr) (n : ℕ) → actor_named w.actors b.name ≡ Some a → (step_with_instr w.image (record b { fuel = n }) ins).name ≡ b.name → b.phase ≡ phase.Running
    → WordGoesOn (with_actor w b) b ins (suc n) (with_actor w (step_with_instr w.image (record b { fuel = n }) ins))
instr_goes w b a None n named xn run = put_next w b (ends (record b { fuel = n }) end_.BadInstruction) a named refl (λ e. absurd cc, λ e. refl)
instr_goes w b a (Some ins) n named xn run = need_goes w b (record b { fuel = n }) a ins (local ins b.hart).hart (local ins b.hart).need named refl xn run

-- an actor with no fuel ends
out_goes : (w : WorldState) (b a : ActorState) (ins : Option Instr) (e : End) → actor_named w.actors b.name ≡ Some a → WordGoesOn (with_actor w b) b ins zero (with_actor w (ends b e))
out_goes w b a None e named = put_next w b (ends b e) a named refl (λ e. absurd cc, λ e. refl)
out_goes w b a (Some ins) e named = put_next w b (ends b e) a named refl (λ e. absurd cc, λ e. refl)

word_goes : (w : WorldState) (b a : ActorState) (n : ℕ) (o : Option ℕ) → actor_named w.actors b.name ≡ Some a → b.fuel ≡ n → (step_with_word w.image b o).name ≡ b.name → b.phase ≡ phase.Running
    → WordGoesOn (with_actor w b) b (option_and_then decode o) n (with_actor w (step_with_word w.image b o))
word_goes w b a n None named has xn run = put_next w b (ends b end_.FetchFault) a named refl (λ e. absurd cc, λ e. refl)
word_goes w b a zero (Some word) named has xn run = subst (λ x. WordGoesOn (with_actor w b) b (decode word) zero (with_actor w x)) (sym (ap (step_with_fuel w.image b word) has)) (out_goes w b a (decode word) end_.FuelOut named)
word_goes w b a (suc n) (Some word) named has xn run =
    let left : n ≡ b.fuel - 1 = omega (arith, has) in
    let is : step_with_instr w.image (record b { fuel = n }) (decode word) ≡ step_with_fuel w.image b word b.fuel = ap (λ m. step_with_instr w.image (record b { fuel = m }) (decode word)) left ∙ sym (ap (step_with_fuel w.image b word) has) in
    subst (λ x. WordGoesOn (with_actor w b) b (decode word) (suc n) (with_actor w x)) is (instr_goes w b a (decode word) n named (ap (λ (x : ActorState). x.name) is ∙ xn) run)

pub step_goes : (w : WorldState) (b a : ActorState) → actor_named w.actors b.name ≡ Some a → (step w.image b).name ≡ b.name → b.phase ≡ phase.Running → GoesOn (with_actor w b) b None (with_actor w (step w.image b))
unfolding step
step_goes w b a named xn run = word_goes w b a b.fuel (fetch w.image b.hart.pc) named refl xn run
