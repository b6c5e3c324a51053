-- The drafts of an actor after each moment are as its call made them.
use Rattle.std.proofs.Common.{◌≡◌, ℕ, zero, suc, ◌+◌, Bool, true, false, List, [], ◌∷◌, ◌++◌, length, refl, sym, ap, subst, ◌∙◌, arith, ◌-◌}
use Rattle.std.proofs.lemmas.Bool.{eqb-true}
use Rattle.std.proofs.lemmas.Bool.Decides.{nat_tests}
use Rattle.std.specs.Prelude.{Option, Some, None, option_and_then, not, ◌==◌, ◌||◌, nat_lt, nat_le, slice_get, if◌then◌else◌}
use Rattle.wedge_events.specs.declared.cells.GateReply.TheVariants as gate_reply
use Rattle.wedge_events.specs.declared.cells.GateAsk.TheVariants as gate_ask
use Rattle.wedge_base.specs.Bytes.{number_of}
use Rattle.wedge_base.specs.Images.{Image, fetch, in_text, read_text, slot_of}
use Rattle.wedge_base.specs.Memory.{range_at}
use Rattle.wedge_base.specs.Names.{most_parts}
use Rattle.wedge_base.specs.Sheets.{Draft, empty_draft, takes_tag, takes_fd, takes_gate, with_tag, with_fd, with_gate, first_excess}
use Rattle.wedge_base.specs.Maps.{has}
use Rattle.wedge_base.specs.Rights.{at_least}
use Rattle.wedge_base.specs.declared.rights.Denial.{Denial}
use Rattle.wedge_base.specs.declared.rights.Denial.TheVariants as denial
use Rattle.wedge_events.specs.declared.cells.LivesReply.TheVariants as lives_reply
use Rattle.wedge_events.specs.Streams.{most_fds}
use Rattle.wedge_base.specs.declared.address.Place.{Place}
use Rattle.wedge_events.specs.declared.events.Event.{Event}
use Rattle.wedge_events.specs.declared.events.Event.TheVariants as event
use Rattle.wedge_events.specs.declared.cells.LivesAsk.TheVariants as lives_ask
use Rattle.wedge_events.specs.declared.cells.DirectoryAsk.TheVariants as directory_ask
use Rattle.wedge_events.specs.declared.cells.DirectoryReply.TheVariants as directory_reply
use Rattle.wedge_events.specs.declared.cells.SlotAsk.TheVariants as slot_ask
use Rattle.wedge_events.specs.declared.cells.SlotReply.TheVariants as slot_reply
use Rattle.wedge_events.specs.declared.cells.StreamReply.TheVariants as reply
use Rattle.wedge_base.specs.declared.image.MemoryRange.{MemoryRange}
use Rattle.wedge_base.specs.declared.rights.Code.TheVariants as code
use Rattle.wedge_base.specs.declared.rights.End.TheVariants as end_
use Rattle.wedge_base.specs.declared.rights.Right.TheVariants as right
use Rattle.rv_isa.specs.declared.Instr.{Instr}
use Rattle.rv_isa.specs.Table.{decode}
use Rattle.rv_hart.specs.declared.Hart.{Hart}
use Rattle.rv_hart.specs.declared.Need.{Need}
use Rattle.rv_hart.specs.declared.Need.TheVariants as need
use Rattle.rv_hart.specs.Local.{local}
use Rattle.wedge_base.specs.Files.{may_open}
use Rattle.wedge_base.specs.declared.image.FileEntry.{FileEntry}
use Rattle.wedge_base.specs.declared.rights.FdBits.{FdBits}
use Rattle.machine.specs.Actors.{ActorState, right_of, denies, answers, refuses, ends, spends, gate_held}
use Rattle.cow_pages.specs.Listed.{bytes_listed}
use Rattle.cow_pages.specs.Copies.{copy_at, holds_copy, read_copy}
use Rattle.machine.specs.Accesses.{loads, stores, load_bytes, load_copy, load_window, load_range, store_copy, store_window, store_range, has_loaded, fits_read, fits_write}
use Rattle.machine.specs.Children.{is_child, without_child}
use Rattle.run_laws.proofs.Between.{joined_is, numbered_is, opened_is, snapped_is, entered_is}
use Rattle.run_laws.proofs.Buffers.{path_is}
use Rattle.machine.specs.Calls.{serves, exit, is_procedure, create, create_with, create_checked, join, are_pages, tag_new, tag_delete, smalloc, free_at, sfree, fd_read, fd_append, fd_close, draft_call, sc_new, sc_mem_add, sc_fd_add, sc_cgate_add, add_gate_to, with_draft, add_right, add_right_to, add_bits, add_bits_to, read_append_bits, a0, a1, a2, a3, a7, set_user, sc_user, path_in, set_root, sc_root, file_at, mode_asked, suits, open_file, open_path, file_open, makes_or_waits, may_be_gate, make_checked, make_with, cgate_make, enter_checked, enter_lending, enter_held, cgate, lent_asked}
use Rattle.run_laws.specs.Drafting.{right_of_number, bits_of_number, edited, with_new, drafts_by_call, drafts_by_need, drafts_by_instr, drafts_by_fuel, drafts_by_word, drafts_after}
use Rattle.machine.specs.Local.{step_with_need, step_with_instr, step_with_fuel, step_with_word, step}
use Rattle.run_laws.specs.Refusals.{full, bad, right_refusal, bits_refusal, gate_refusal, fuel_short, user_refusal, root_refusal}
use Rattle.machine.specs.Take.{runs, loads_by, loads_at, takes}
use Rattle.machine.specs.Preparation.{Preparation}
use Rattle.machine.specs.declared.copy_grant.CopyGrant.{CopyGrant}
use Rattle.machine.specs.Entering.{may_lend, excess_lent}
use Rattle.callgate.specs.declared.gate.Gate.{Gate}

-- ---- what leaves them as they are

abbrev Stays : ActorState → ActorState → Type 0
Stays a x = x.drafts ≡ a.drafts

stays_if : (a x y : ActorState) (t : Bool) → Stays a x → Stays a y → Stays a (if t then x else y)
stays_if a x y true h k = h
stays_if a x y false h k = k

load_bytes_stays : (ins : Instr) (s : Bool) (a : ActorState) (width : ℕ) (o : Option (List ℕ)) → Stays a (load_bytes ins s a width o)
load_bytes_stays ins s a width None = refl
load_bytes_stays ins s a width (Some bytes) = refl

load_copy_stays : (ins : Instr) (s : Bool) (a : ActorState) (width : ℕ) (p : Place) (o : Option (List ℕ)) → Stays a (load_copy ins s a width p o)
load_copy_stays ins s a width p None = refl
load_copy_stays ins s a width p (Some bytes) = load_bytes_stays ins s a width (read_copy p.offset width bytes)

load_window_stays : (ins : Instr) (s : Bool) (a : ActorState) (width : ℕ) (p : Option Place) → Stays a (load_window ins s a width p)
load_window_stays ins s a width None = refl
load_window_stays ins s a width (Some p) = load_copy_stays ins s a width p (copy_at a.memory.copies p.slot)

load_range_stays : (ins : Instr) (s : Bool) (a : ActorState) (address width : ℕ) (r : Option MemoryRange) → Stays a (load_range ins s a address width r)
load_range_stays ins s a address width (Some r) = refl
load_range_stays ins s a address width None = load_window_stays ins s a width (slot_of address)

load_stays : (i : Image) (ins : Instr) (s : Bool) (a : ActorState) (address width : ℕ) → Stays a (loads i ins s a address width)
load_stays i ins s a address width =
    stays_if a (ends a end_.Misaligned) _ _ refl
    (stays_if a (has_loaded ins s a width (number_of (read_text i address width))) _ (in_text i address width) refl (load_range_stays ins s a address width (range_at a.memory.ranges address width)))

store_copy_stays : (a : ActorState) (width value : ℕ) (p : Place) (o : Option (List ℕ)) → Stays a (store_copy a width value p o)
store_copy_stays a width value p None = refl
store_copy_stays a width value p (Some bytes) = stays_if a _ (ends a end_.Unmapped) (holds_copy p.offset width bytes) refl refl

store_window_stays : (a : ActorState) (width value : ℕ) (p : Option Place) → Stays a (store_window a width value p)
store_window_stays a width value None = refl
store_window_stays a width value (Some p) = store_copy_stays a width value p (copy_at a.memory.copies p.slot)

store_range_stays : (a : ActorState) (address width value : ℕ) (r : Option MemoryRange) → Stays a (store_range a address width value r)
store_range_stays a address width value (Some r) = refl
store_range_stays a address width value None = store_window_stays a width value (slot_of address)

store_stays : (i : Image) (a : ActorState) (address width value : ℕ) → Stays a (stores i a address width value)
store_stays i a address width value =
    stays_if a (ends a end_.Misaligned) _ _ refl
    (stays_if a (ends a end_.TextStore) _ (in_text i address width) refl (store_range_stays a address width value (range_at a.memory.ranges address width)))

read_stays : (a : ActorState) → Stays a (fd_read a)
read_stays a =
    stays_if a (refuses a code.Bad) _ (not (fits_write a (a1 a) (a2 a))) refl
    (stays_if a (refuses a code.FuelShort) _ (nat_lt a.fuel (a2 a)) refl
    (stays_if a (refuses a code.NoSuch) _ (nat_le most_fds (a0 a)) refl refl))

append_stays : (i : Image) (a : ActorState) → Stays a (fd_append i a)
append_stays i a =
    stays_if a (refuses a code.Bad) _ (not (fits_read i a (a1 a) (a2 a))) refl
    (stays_if a (refuses a code.FuelShort) _ (nat_lt a.fuel (a2 a)) refl
    (stays_if a (refuses a code.NoSuch) _ (nat_le most_fds (a0 a)) refl refl))

file_stays : (a : ActorState) (path : List ℕ) (b : FdBits) (f : Option FileEntry) → Stays a (open_file a path b f)
file_stays a path b None = refl
file_stays a path b (Some f) = stays_if a (denies a (denial.File path)) _ (not (may_open a.sheet.user f b)) refl (stays_if a (refuses a code.Bad) _ (not (suits f.kind b)) refl refl)

open_stays : (i : Image) (a : ActorState) (b : Option FdBits) (path : Option (List ℕ)) → Stays a (open_path i a b path)
open_stays i a None path = refl
open_stays i a (Some b) None = refl
open_stays i a (Some b) (Some path) = stays_if a (refuses a code.FuelShort) _ (nat_lt a.fuel (a1 a)) refl (file_stays a path b (file_at i path))

entry_stays : (a : ActorState) (g : Gate) (lent : Option Draft) (d : Option Denial) → Stays a (enter_checked a g lent d)
entry_stays a g lent (Some d) = refl
entry_stays a g lent None =
    stays_if a (refuses a code.Deep) _ (nat_le most_parts (length a.name)) refl (stays_if a (refuses a code.FuelShort) _ (nat_lt a.fuel g.fuel) refl refl)

lending_stays : (a : ActorState) (g : Gate) (lent : Option (Option Draft)) → Stays a (enter_lending a g lent)
lending_stays a g None = refl
lending_stays a g (Some lent) = stays_if a (refuses a code.Bad) _ (not (may_lend lent)) refl (entry_stays a g lent (excess_lent a lent))

enter_stays : (a : ActorState) (g : Option Gate) → Stays a (enter_held a g)
enter_stays a None = refl
enter_stays a (Some g) = lending_stays a g (lent_asked a.drafts (a2 a))

create_stays : (i : Image) (a : ActorState) (d : Option Draft) → Stays a (create_with i a d)
create_stays i a None = refl
create_stays i a (Some d) = stays_if a (refuses a code.Bad) _ (not (is_procedure i (a1 a))) refl (checked_stays (first_excess a.sheet a.made d))
  where
    checked_stays : (d : Option Denial) → Stays a (create_checked a d)
    checked_stays (Some d) = refl
    checked_stays None = stays_if a (refuses a code.Deep) _ (nat_le most_parts (length a.name)) refl (stays_if a (refuses a code.FuelShort) _ (nat_lt a.fuel (a3 a)) refl refl)

made_stays : (a : ActorState) (d : Draft) (p : Preparation) (gs : List CopyGrant) → Stays a (makes_or_waits a d p gs)
made_stays a d p [] = refl
made_stays a d p (g ∷ gs) = refl

make_stays : (i : Image) (a : ActorState) (d : Option Draft) → Stays a (make_with i a d)
make_stays i a None = refl
make_stays i a (Some d) = stays_if a (refuses a code.Bad) _ (not (may_be_gate i a d)) refl (checked_stays (first_excess a.sheet a.made d))
  where
    checked_stays : (o : Option Denial) → Stays a (make_checked i a d o)
    checked_stays (Some x) = refl
    checked_stays None = made_stays a d _ _

join_stays : (a : ActorState) → Stays a (join a)
join_stays a = stays_if a _ (refuses a code.NoSuch) (is_child a.unjoined (a0 a)) refl refl

smalloc_stays : (a : ActorState) → Stays a (smalloc a)
smalloc_stays a = stays_if a (refuses a code.Bad) _ (a1 a == 0) refl (stays_if a _ (denies a (denial.Tag (a0 a) right.ReadWrite)) (at_least (right_of a (a0 a)) right.ReadWrite) refl refl)

free_stays : (a : ActorState) (p : Option Place) → Stays a (free_at a p)
free_stays a None = refl
free_stays a (Some p) = refl

-- ---- the calls on drafts

same_if : (t : Bool) (x y : ActorState) (ds es : List Draft) → x.drafts ≡ ds → y.drafts ≡ es → (if t then x else y).drafts ≡ (if t then ds else es)
same_if true x y ds es h k = h
same_if false x y ds es h k = k

new_edits : (a : ActorState) (n : ℕ) (t : Bool) → nat_lt n 64 ≡ not t
    → (if t then refuses a code.Full else answers (record a { drafts = a.drafts ++ empty_draft ∷ [] }) n).drafts ≡ with_new a.drafts (if nat_lt n 64 then None else Some full)
new_edits a n true e = rw e refl
new_edits a n false e = rw e refl

-- a grant is put in where there is room
put_edits : (a : ActorState) (d new : Draft) (edit : Draft → Draft) (w : Bool) → edit d ≡ new
    → (if w then answers (with_draft a (a0 a) new) 0 else refuses a code.Full).drafts ≡ edited a.drafts (a0 a) (if w then None else Some full) edit (Some d)
put_edits a d new edit true is = ap (λ x. (with_draft a (a0 a) x).drafts) (sym is)
put_edits a d new edit false is = refl

right_edits : (a : ActorState) (d : Draft) (t u v : Bool)
    → (add_right a d (if t then Some right.Cow else if u then Some right.Read else if v then Some right.ReadWrite else None)).drafts
    ≡ edited a.drafts (a0 a) (if not (t || (u || v)) then Some bad else if takes_tag d (a1 a) then None else Some full) (λ x. with_tag x (a1 a) (if t then right.Cow else if u then right.Read else right.ReadWrite)) (Some d)
right_edits a d true u v = put_edits a d (with_tag d (a1 a) right.Cow) (λ x. with_tag x (a1 a) right.Cow) (takes_tag d (a1 a)) refl
right_edits a d false true v = put_edits a d (with_tag d (a1 a) right.Read) (λ x. with_tag x (a1 a) right.Read) (takes_tag d (a1 a)) refl
right_edits a d false false true = put_edits a d (with_tag d (a1 a) right.ReadWrite) (λ x. with_tag x (a1 a) right.ReadWrite) (takes_tag d (a1 a)) refl
right_edits a d false false false = refl

right_to_edits : (a : ActorState) (d : Option Draft) → (add_right_to a d).drafts ≡ edited a.drafts (a0 a) (right_refusal (a1 a) (a2 a) d) (λ x. with_tag x (a1 a) (right_of_number (a2 a))) d
right_to_edits a None = refl
right_to_edits a (Some d) = right_edits a d (a2 a == 1) (a2 a == 2) (a2 a == 3)

bits_edits : (a : ActorState) (d : Draft) (t u v : Bool) → (t ≡ true → u ≡ false)
    → (add_bits a d (if t then Some (read_append_bits true false) else if u then Some (read_append_bits false true) else if v then Some (read_append_bits true true) else None)).drafts
    ≡ edited a.drafts (a0 a) (if not (t || (u || v)) then Some bad else if takes_fd d (a1 a) then None else Some full)
    (λ x. with_fd x (a1 a) (record { read = (if u then false else true); append = (if t then false else true) })) (Some d)
bits_edits a d true true v apart = let both : true ≡ false = apart refl in absurd cc
bits_edits a d true false v apart = put_edits a d (with_fd d (a1 a) (read_append_bits true false)) (λ x. with_fd x (a1 a) (read_append_bits true false)) (takes_fd d (a1 a)) refl
bits_edits a d false true v apart = put_edits a d (with_fd d (a1 a) (read_append_bits false true)) (λ x. with_fd x (a1 a) (read_append_bits false true)) (takes_fd d (a1 a)) refl
bits_edits a d false false true apart = put_edits a d (with_fd d (a1 a) (read_append_bits true true)) (λ x. with_fd x (a1 a) (read_append_bits true true)) (takes_fd d (a1 a)) refl
bits_edits a d false false false apart = refl

pub one_not_two : (n : ℕ) → (n == 1) ≡ true → (n == 2) ≡ false
one_not_two n e = subst (λ m. (m == 2) ≡ false) (sym (eqb-true n 1 e)) refl

bits_to_edits : (a : ActorState) (d : Option Draft) → (add_bits_to a d).drafts ≡ edited a.drafts (a0 a) (bits_refusal (a1 a) (a2 a) d) (λ x. with_fd x (a1 a) (bits_of_number (a2 a))) d
bits_to_edits a None = refl
bits_to_edits a (Some d) = bits_edits a d (a2 a == 1) (a2 a == 2) (a2 a == 3) (one_not_two (a2 a))

entry_edits : (i : Image) (a : ActorState) (d : Draft) (p : Bool)
    → (if not p then refuses a code.Bad else if takes_gate d (a1 a) then answers (with_draft a (a0 a) (with_gate d (a1 a))) 0 else refuses a code.Full).drafts
    ≡ edited a.drafts (a0 a) (if not p then Some bad else if takes_gate d (a1 a) then None else Some full) (λ x. with_gate x (a1 a)) (Some d)
entry_edits i a d false = refl
entry_edits i a d true = put_edits a d (with_gate d (a1 a)) (λ x. with_gate x (a1 a)) (takes_gate d (a1 a)) refl

gate_edits : (i : Image) (a : ActorState) (d : Option Draft) → (add_gate_to i a d).drafts ≡ edited a.drafts (a0 a) (gate_refusal i (a1 a) d) (λ x. with_gate x (a1 a)) d
gate_edits i a None = refl
gate_edits i a (Some d) = entry_edits i a d (is_procedure i (a1 a))

user_edits : (a : ActorState) (d : Option Draft) → (set_user a d).drafts ≡ edited a.drafts (a0 a) (user_refusal d) (λ x. record x { user = Some (a1 a) }) d
user_edits a None = refl
user_edits a (Some d) = refl

path_edits : (a : ActorState) (d : Draft) (path : List ℕ) (t : Bool) → nat_le (a2 a) a.fuel ≡ not t
    → (if t then refuses a code.FuelShort else answers (spends (with_draft a (a0 a) (record d { root = Some path })) (a2 a)) 0).drafts
    ≡ edited a.drafts (a0 a) (if nat_le (a2 a) a.fuel then None else Some fuel_short) (λ x. record x { root = Some path }) (Some d)
path_edits a d path true e = rw e refl
path_edits a d path false e = rw e refl

not_below : (m n : ℕ) → nat_le n m ≡ not (nat_lt m n)
not_below m n = grind (arith, nat_tests)

root_edits : (a : ActorState) (path : Option (List ℕ)) (d : Option Draft) → (set_root a path d).drafts ≡ edited a.drafts (a0 a) (root_refusal a (a2 a) path d) (λ x. record x { root = path }) d
root_edits a path None = refl
root_edits a None (Some d) = refl
root_edits a (Some path) (Some d) = path_edits a d path (nat_lt a.fuel (a2 a)) (not_below a.fuel (a2 a))

abbrev EditsRoot : ActorState → Option (List ℕ) → Option (List ℕ) → Option Draft → Type 0
EditsRoot a path told d = (set_root a path d).drafts ≡ edited a.drafts (a0 a) (root_refusal a (a2 a) told d) (λ x. record x { root = told }) d

draft_edits : (i : Image) (a : ActorState) (n : ℕ) → (draft_call i a n).drafts ≡ drafts_by_call i a a.hart.regs n
draft_edits i a n =
    let found = slice_get a.drafts (a0 a) in
    same_if (n == 7) (sc_new a) _ _ _ (new_edits a (length a.drafts) (nat_le 64 (length a.drafts)) (not_over (length a.drafts)))
    (same_if (n == 8) (sc_mem_add a) _ _ _ (right_to_edits a found)
    (same_if (n == 9) (sc_fd_add a) _ _ _ (bits_to_edits a found)
    (same_if (n == 10) (sc_cgate_add i a) _ _ _ (gate_edits i a found)
    (same_if (n == 11) (sc_user a) _ _ _ (user_edits a found)
    (same_if (n == 12) (sc_root i a) _ _ _ (subst (λ told. EditsRoot a (path_in i a (a1 a) (a2 a)) told found) (sym (path_is i a (a1 a) (a2 a))) (root_edits a (path_in i a (a1 a) (a2 a)) found)) refl)))))
  where
    not_over : (n : ℕ) → nat_lt n 64 ≡ not (nat_le 64 n)
    not_over n = grind (arith, nat_tests)

-- ---- any call

pub picked : (P : ActorState → Type 0) (t : Bool) (x y : ActorState) → (t ≡ true → P x) → (t ≡ false → P y) → P (if t then x else y)
picked P true x y h k = h refl
picked P false x y h k = k refl

call_edits : (i : Image) (a : ActorState) (n : ℕ) → (serves i a n).drafts ≡ drafts_by_call i a a.hart.regs n
unfolding serves
call_edits i a n =
    picked (λ x. x.drafts ≡ drafts_by_call i a a.hart.regs n) (n == 0) (exit a) _
    (λ e. subst (λ m. a.drafts ≡ drafts_by_call i a a.hart.regs m) (sym (eqb-true n 0 e)) refl)
    (λ _. picked (λ x. x.drafts ≡ drafts_by_call i a a.hart.regs n) (n == 1) (create i a) _
    (λ e. create_stays i a (slice_get a.drafts (a0 a)) ∙ subst (λ m. a.drafts ≡ drafts_by_call i a a.hart.regs m) (sym (eqb-true n 1 e)) refl)
    (λ _. picked (λ x. x.drafts ≡ drafts_by_call i a a.hart.regs n) (n == 2) (join a) _
    (λ e. join_stays a ∙ subst (λ m. a.drafts ≡ drafts_by_call i a a.hart.regs m) (sym (eqb-true n 2 e)) refl)
    (λ _. picked (λ x. x.drafts ≡ drafts_by_call i a a.hart.regs n) (n == 3) (tag_new a) _
    (λ e. stays_if a _ (refuses a code.Bad) (are_pages (a0 a)) refl refl ∙ subst (λ m. a.drafts ≡ drafts_by_call i a a.hart.regs m) (sym (eqb-true n 3 e)) refl)
    (λ _. picked (λ x. x.drafts ≡ drafts_by_call i a a.hart.regs n) (n == 4) (tag_delete a) _
    (λ e. stays_if a _ (denies a (denial.NotMaker (a0 a))) (has a.made.tags (a0 a)) refl refl ∙ subst (λ m. a.drafts ≡ drafts_by_call i a a.hart.regs m) (sym (eqb-true n 4 e)) refl)
    (λ _. picked (λ x. x.drafts ≡ drafts_by_call i a a.hart.regs n) (n == 5) (smalloc a) _
    (λ e. smalloc_stays a ∙ subst (λ m. a.drafts ≡ drafts_by_call i a a.hart.regs m) (sym (eqb-true n 5 e)) refl)
    (λ _. picked (λ x. x.drafts ≡ drafts_by_call i a a.hart.regs n) (n == 6) (sfree a) _
    (λ e. free_stays a (slot_of (a0 a)) ∙ subst (λ m. a.drafts ≡ drafts_by_call i a a.hart.regs m) (sym (eqb-true n 6 e)) refl)
    (λ _. picked (λ x. x.drafts ≡ drafts_by_call i a a.hart.regs n) (n == 13) (cgate_make i a) _
    (λ e. make_stays i a (slice_get a.drafts (a0 a)) ∙ subst (λ m. a.drafts ≡ drafts_by_call i a a.hart.regs m) (sym (eqb-true n 13 e)) refl)
    (λ _. picked (λ x. x.drafts ≡ drafts_by_call i a a.hart.regs n) (n == 14) (cgate a) _
    (λ e. enter_stays a (gate_held a (a0 a)) ∙ subst (λ m. a.drafts ≡ drafts_by_call i a a.hart.regs m) (sym (eqb-true n 14 e)) refl)
    (λ _. picked (λ x. x.drafts ≡ drafts_by_call i a a.hart.regs n) (n == 15) (fd_read a) _
    (λ e. read_stays a ∙ subst (λ m. a.drafts ≡ drafts_by_call i a a.hart.regs m) (sym (eqb-true n 15 e)) refl)
    (λ _. picked (λ x. x.drafts ≡ drafts_by_call i a a.hart.regs n) (n == 16) (fd_append i a) _
    (λ e. append_stays i a ∙ subst (λ m. a.drafts ≡ drafts_by_call i a a.hart.regs m) (sym (eqb-true n 16 e)) refl)
    (λ _. picked (λ x. x.drafts ≡ drafts_by_call i a a.hart.regs n) (n == 17) (fd_close a) _
    (λ e. stays_if a (refuses a code.NoSuch) _ (nat_le most_fds (a0 a)) refl refl ∙ subst (λ m. a.drafts ≡ drafts_by_call i a a.hart.regs m) (sym (eqb-true n 17 e)) refl)
    (λ _. picked (λ x. x.drafts ≡ drafts_by_call i a a.hart.regs n) (n == 18) (file_open i a) _
    (λ e. open_stays i a (mode_asked (a2 a)) (path_in i a (a0 a) (a1 a)) ∙ subst (λ m. a.drafts ≡ drafts_by_call i a a.hart.regs m) (sym (eqb-true n 18 e)) refl)
    (λ _. draft_edits i a n)))))))))))))

-- ---- an instruction

need_edits : (i : Image) (ins : Instr) (a : ActorState) (h : Hart) (n : Need) → (step_with_need i ins a h n).drafts ≡ drafts_by_need i a n
need_edits i ins a h need.Done = refl
need_edits i ins a h (need.Load address width s) = load_stays i ins s a address width
need_edits i ins a h (need.Store address width value) = store_stays i a address width value
need_edits i ins a h need.Call = call_edits i a (a7 a)
need_edits i ins a h need.Break = refl
need_edits i ins a h need.JumpMisaligned = refl

instr_edits : (i : Image) (a : ActorState) (ins : Option Instr) → (step_with_instr i a ins).drafts ≡ drafts_by_instr i a ins
instr_edits i a None = refl
instr_edits i a (Some ins) = need_edits i ins a (local ins a.hart).hart (local ins a.hart).need

fuel_edits : (i : Image) (a : ActorState) (word n : ℕ) → a.fuel ≡ n → (step_with_fuel i a word n).drafts ≡ drafts_by_fuel i a word n
fuel_edits i a word zero has = refl
fuel_edits i a word (suc n) has =
    let left : n ≡ a.fuel - 1 = omega (arith, has) in
    subst (λ m. (step_with_instr i (record a { fuel = m }) (decode word)).drafts ≡ drafts_by_instr i (record a { fuel = n }) (decode word)) left (instr_edits i (record a { fuel = n }) (decode word))

word_edits : (i : Image) (a : ActorState) (o : Option ℕ) → (step_with_word i a o).drafts ≡ drafts_by_word i a o
word_edits i a None = refl
word_edits i a (Some word) = fuel_edits i a word a.fuel refl

pub step_edits : (i : Image) (a : ActorState) → (step i a).drafts ≡ drafts_after i a None
unfolding step
step_edits i a = word_edits i a (fetch i a.hart.pc)

-- ---- an event

loaded_stays : (ins : Instr) (n : Need) (a : ActorState) (value : ℕ) → Stays a (loads_by ins n a value)
loaded_stays ins need.Done a value = refl
loaded_stays ins (need.Load address width s) a value = refl
loaded_stays ins (need.Store address width v) a value = refl
loaded_stays ins need.Call a value = refl
loaded_stays ins need.Break a value = refl
loaded_stays ins need.JumpMisaligned a value = refl

loads_stay : (a : ActorState) (ins : Option Instr) (value : ℕ) → Stays a (loads_at a ins value)
loads_stay a None value = refl
loads_stay a (Some ins) value = loaded_stays ins (local ins a.hart).need a value

pub event_edits : (i : Image) (a : ActorState) (e : Event) → (takes i a e).drafts ≡ a.drafts
unfolding takes
event_edits i a (event.Slot slot q (slot_reply.Loaded value)) = loads_stay (runs a) (option_and_then decode (fetch i a.hart.pc)) value
event_edits i a (event.Slots (directory_ask.Release place) r) = refl
event_edits i a (event.Slots directory_ask.Claim (directory_reply.Claimed place number)) = refl
event_edits i a (event.Slots directory_ask.Claim directory_reply.Full) = refl
event_edits i a (event.Slots directory_ask.Claim directory_reply.Released) = refl
event_edits i a (event.Slot slot q (slot_reply.Snapped pages)) = snapped_is (λ x. x.drafts ≡ a.drafts) a a.phase slot (Some (bytes_listed pages)) refl (λ x. refl) (λ x. refl) (λ g. refl)
event_edits i a (event.Slot slot q slot_reply.Gone) = snapped_is (λ x. x.drafts ≡ a.drafts) a a.phase slot None refl (λ x. refl) (λ x. refl) (λ g. refl)
event_edits i a (event.Slot slot (slot_ask.Sfree offset live) (slot_reply.Denied tag wants)) = refl
event_edits i a (event.Slot slot (slot_ask.Open tag pages) slot_reply.Opened) = refl
event_edits i a (event.Slot slot q r) = refl
event_edits i a (event.Fds (directory_ask.Release place) r) = refl
event_edits i a (event.Fds directory_ask.Claim (directory_reply.Claimed fd number)) = numbered_is (λ x. x.drafts ≡ a.drafts) a a.phase fd refl (λ o. refl)
event_edits i a (event.Fds directory_ask.Claim directory_reply.Full) = refl
event_edits i a (event.Fds directory_ask.Claim directory_reply.Released) = refl
event_edits i a (event.Fd fd q reply.Opened) = opened_is (λ x. x.drafts ≡ a.drafts) a a.phase fd refl (λ o. refl)
event_edits i a (event.Fd fd q (reply.Given given)) = refl
event_edits i a (event.Fd fd q reply.Appended) = refl
event_edits i a (event.Fd fd q reply.Closed) = refl
event_edits i a (event.Fd fd q reply.NoSuch) = refl
event_edits i a (event.Fd fd q (reply.Denied wants)) = refl
event_edits i a (event.Fd fd q reply.Bad) = refl
event_edits i a (event.Lives lives_ask.Claim lives_reply.Claimed) = refl
event_edits i a (event.Lives lives_ask.Claim lives_reply.Full) = refl
event_edits i a (event.Lives lives_ask.Claim lives_reply.Released) = refl
event_edits i a (event.Lives (lives_ask.Release x) r) = refl
event_edits i a (event.Join k e fuel) = joined_is (λ x. x.drafts ≡ a.drafts) (record a { fuel = a.fuel + fuel; unjoined = without_child a.unjoined k }) a.phase e refl refl
event_edits i a (event.Enter run) = entered_is (λ x. x.drafts ≡ a.drafts) a a.phase refl (λ x. refl)
event_edits i a (event.Gate id (gate_ask.Enter run first) (gate_reply.Entered memory)) = entered_is (λ x. x.drafts ≡ a.drafts) a a.phase refl (λ x. refl)
event_edits i a e = refl
