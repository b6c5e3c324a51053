-- Private memory over an instruction and over an event.
use Rattle.std.proofs.Common.{◌≡◌, ℕ, zero, suc, ◌+◌, ◌-◌, Bool, true, false, List, refl, sym, ap, subst, ◌∙◌, arith, ◌∷◌, []}
use Rattle.std.specs.Prelude.{Option, Some, None, option_map, option_and_then, not, ◌&&◌, ◌==◌, nat_lt, nat_le, if◌then◌else◌, length, slice_get, slice_range}
use Rattle.wedge_base.specs.Bytes.{number_of, bytes_of, overwrite}
use Rattle.wedge_base.specs.Images.{Image, fetch, read_text, slot_of}
use Rattle.wedge_base.specs.Memory.{range_at, read_range}
use Rattle.wedge_events.specs.Streams.{Stream, stream_reply as stream_reply_of, most_fds}
use Rattle.wedge_base.specs.declared.address.Place.{Place}
use Rattle.wedge_base.specs.declared.image.MemoryRange.{MemoryRange}
use Rattle.wedge_events.specs.declared.events.Event.{Event}
use Rattle.wedge_events.specs.declared.events.Event.TheVariants as event
use Rattle.wedge_events.specs.declared.cells.LivesAsk.TheVariants as lives_ask
use Rattle.wedge_events.specs.declared.cells.DirectoryAsk.TheVariants as directory_ask
use Rattle.wedge_events.specs.declared.cells.DirectoryReply.TheVariants as directory_reply
use Rattle.wedge_events.specs.declared.cells.SlotAsk.TheVariants as slot_ask
use Rattle.wedge_events.specs.declared.cells.SlotReply.TheVariants as slot_reply
use Rattle.wedge_events.specs.declared.cells.StreamAsk.{StreamAsk}
use Rattle.wedge_events.specs.declared.cells.StreamAsk.TheVariants as stream_ask
use Rattle.wedge_events.specs.declared.cells.StreamReply.TheVariants as reply
use Rattle.wedge_events.specs.declared.events.Want.{Want}
use Rattle.wedge_events.specs.declared.events.Want.TheVariants as want
use Rattle.wedge_base.specs.declared.rights.End.TheVariants as end_
use Rattle.wedge_base.specs.declared.rights.Code.TheVariants as code
use Rattle.rv_isa.specs.declared.Instr.{Instr}
use Rattle.rv_isa.specs.Table.{decode}
use Rattle.rv_hart.specs.declared.Hart.{Hart}
use Rattle.rv_hart.specs.declared.Need.{Need}
use Rattle.rv_hart.specs.declared.Need.TheVariants as need
use Rattle.rv_hart.specs.Local.{local}
use Rattle.wedge_base.specs.Files.{may_open}
use Rattle.wedge_base.specs.declared.image.FileEntry.{FileEntry}
use Rattle.machine.specs.Actors.{ActorState, right_of, denies, ends, refuses, gate_held}
use Rattle.cow_pages.specs.Copies.{copy_at, holds_copy, read_copy}
use Rattle.cow_pages.specs.Listed.{bytes_listed}
use Rattle.cow_pages.specs.PrivateMemory.{PrivateMemory}
use Rattle.std.specs.Option.{option_or}
use Rattle.wedge_events.specs.declared.cells.GateReply.TheVariants as gate_reply
use Rattle.wedge_events.specs.declared.cells.GateAsk.TheVariants as gate_ask
use Rattle.machine.specs.Accesses.{load_bytes, load_copy, load_window, load_range, store_copy, store_window, store_range, has_loaded, has_stored, with_bytes, fits_read, fits_write}
use Rattle.wedge_base.specs.Names.{most_parts}
use Rattle.wedge_base.specs.Sheets.{Draft, takes_tag, takes_fd, takes_gate, first_excess}
use Rattle.wedge_base.specs.Maps.{has}
use Rattle.wedge_base.specs.Rights.{at_least}
use Rattle.wedge_base.specs.declared.rights.Denial.{Denial}
use Rattle.wedge_base.specs.declared.rights.Denial.TheVariants as denial
use Rattle.wedge_events.specs.declared.cells.LivesReply.TheVariants as lives_reply
use Rattle.wedge_base.specs.declared.rights.FdBits.{FdBits}
use Rattle.wedge_base.specs.declared.rights.Right.{Right}
use Rattle.wedge_base.specs.declared.rights.Right.TheVariants as right
use Rattle.machine.specs.Children.{is_child, without_child}
use Rattle.run_laws.proofs.Between.{event_for, joined_is, numbered_is, opened_is, snapped_is, entered_is}
use Rattle.run_laws.proofs.Happening.{Happens, Requested, Joined, Snaps, GateSnaps, Started, Opens, Releases, Numbers, OpensFile, LastJoined, Ended, EntersGate, LeavesGate, EntersRecycled, LeavesRecycled}
use Rattle.run_laws.proofs.Meeting.{IsRequest}
use Rattle.run_laws.proofs.StreamCalls.{IsStreamRequest, append_cases, close_cases}
use Rattle.run_laws.proofs.Reading.{read_remembers}
use Rattle.machine.specs.Cells.{Cells, stream_in}
use Rattle.machine.specs.Worlds.{WorldState}
use Rattle.run_laws.proofs.WritingCopies.{copied_there}
use Rattle.machine.specs.Calls.{serves, exit, is_procedure, create, create_with, create_checked, join, are_pages, tag_new, tag_delete, smalloc, free_at, sfree, fd_read, fd_append, fd_close, most_drafts, sc_new, right_asked, bits_asked, add_right, add_right_to, sc_mem_add, add_bits, add_bits_to, sc_fd_add, add_gate_to, sc_cgate_add, draft_call, a0, a1, a2, a3, a7, set_user, sc_user, path_in, put_root, set_root, sc_root, file_at, mode_asked, suits, open_file, open_path, file_open, makes_or_waits, may_be_gate, make_checked, make_with, cgate_make, enter_checked, enter_lending, enter_held, cgate, lent_asked}
use Rattle.machine.specs.Local.{step_with_need, step_with_instr, step_with_fuel, step_with_word, step}
use Rattle.machine.specs.Take.{runs, loads_by, loads_at, takes}
use Rattle.run_laws.specs.Remembering.{copied_bytes, copy_target, target_among, Elsewhere, LoadGives, StoreWrites, NeedRemembers, InstrRemembers, WordRemembers, EventRemembers, memory_after}
use Rattle.run_laws.proofs.WritingRanges.{length-bytes_of, written_at}
use Rattle.machine.specs.Preparation.{Preparation}
use Rattle.machine.specs.declared.copy_grant.CopyGrant.{CopyGrant}
use Rattle.machine.specs.Entering.{may_lend, excess_lent}
use Rattle.callgate.specs.declared.gate.Gate.{Gate}

-- what keeps private memory
abbrev Keeps : ActorState → ActorState → Type 0
Keeps a x = x.memory ≡ a.memory

keeps_if : (a x y : ActorState) (t : Bool) → Keeps a x → Keeps a y → Keeps a (if t then x else y)
keeps_if a x y true h k = h
keeps_if a x y false h k = k

-- loads
bytes_given : (ins : Instr) (s : Bool) (a : ActorState) (width : ℕ) (o : Option (List ℕ)) → LoadGives a ins.rd s width o (load_bytes ins s a width o)
bytes_given ins s a width None = refl
bytes_given ins s a width (Some bytes) = refl

copy_given : (ins : Instr) (s : Bool) (a : ActorState) (width : ℕ) (p : Place) (o : Option (List ℕ)) → LoadGives a ins.rd s width (option_and_then (read_copy p.offset width) o) (load_copy ins s a width p o)
copy_given ins s a width p None = refl
copy_given ins s a width p (Some bytes) = bytes_given ins s a width (read_copy p.offset width bytes)

window_given : (ins : Instr) (s : Bool) (a : ActorState) (width : ℕ) (p : Option Place) → LoadGives a ins.rd s width (copied_bytes a.memory.copies width p) (load_window ins s a width p)
window_given ins s a width None = refl
window_given ins s a width (Some p) = copy_given ins s a width p (copy_at a.memory.copies p.slot)

load_gives : (i : Image) (ins : Instr) (s : Bool) (a : ActorState) (address width : ℕ) (t u : Bool) (r : Option MemoryRange)
    → LoadGives a ins.rd s width
    (if not t then None else if u then Some (read_text i address width) else option_or (option_map (λ x. read_range x address width) r) (copied_bytes a.memory.copies width (slot_of address)))
    (if not t then ends a end_.Misaligned else if u then has_loaded ins s a width (number_of (read_text i address width)) else load_range ins s a address width r)
load_gives i ins s a address width false u r = refl
load_gives i ins s a address width true true r = refl
load_gives i ins s a address width true false (Some r) = refl
load_gives i ins s a address width true false None = window_given ins s a width (slot_of address)

-- stores
copy_stored : (a : ActorState) (address width value : ℕ) (p : Place) (bytes : List ℕ) (t : Bool) → copy_at a.memory.copies p.slot ≡ Some bytes → holds_copy p.offset width bytes ≡ t
    → StoreWrites a address (bytes_of width value) (copy_target (Some p) (if t then Some (slice_range bytes p.offset (p.offset + width)) else None))
    (if t then has_stored (with_bytes a p.slot (overwrite bytes p.offset (bytes_of width value))) else ends a end_.Unmapped)
copy_stored a address width value p bytes true there holds =
    let count = length-bytes_of width value in
    (copied_there a.memory.copies p bytes (bytes_of width value) there (ap (λ n. nat_le (p.offset + n) (length bytes)) count ∙ holds), refl, refl)
copy_stored a address width value p bytes false there holds = refl

copy_writes : (a : ActorState) (address width value : ℕ) (p : Place) (o : Option (List ℕ)) → copy_at a.memory.copies p.slot ≡ o
    → StoreWrites a address (bytes_of width value) (copy_target (Some p) (option_and_then (read_copy p.offset width) o)) (store_copy a width value p o)
copy_writes a address width value p None there = refl
copy_writes a address width value p (Some bytes) there = copy_stored a address width value p bytes (holds_copy p.offset width bytes) there refl

window_writes : (a : ActorState) (address width value : ℕ) (p : Option Place) → StoreWrites a address (bytes_of width value) (copy_target p (copied_bytes a.memory.copies width p)) (store_window a width value p)
window_writes a address width value None = refl
window_writes a address width value (Some p) = copy_writes a address width value p (copy_at a.memory.copies p.slot) refl

store_writes : (a : ActorState) (address width value : ℕ) (t u : Bool) (r : Option MemoryRange) → range_at a.memory.ranges address width ≡ r
    → StoreWrites a address (bytes_of width value) (if t && not u then target_among a address width r else Elsewhere)
    (if not t then ends a end_.Misaligned else if u then ends a end_.TextStore else store_range a address width value r)
store_writes a address width value false u r there = refl
store_writes a address width value true true r there = refl
store_writes a address width value true false (Some r) there =
    (written_at a.memory.ranges address (bytes_of width value) r (ap (range_at a.memory.ranges address) (length-bytes_of width value) ∙ there), refl, refl)
store_writes a address width value true false None there = window_writes a address width value (slot_of address)

-- calls
append_keeps : (i : Image) (a : ActorState) → Keeps a (fd_append i a)
append_keeps i a =
    keeps_if a (refuses a code.Bad) _ (not (fits_read i a (a1 a) (a2 a))) refl
    (keeps_if a (refuses a code.FuelShort) _ (nat_lt a.fuel (a2 a)) refl
    (keeps_if a (refuses a code.NoSuch) _ (nat_le most_fds (a0 a)) refl refl))

read_keeps : (a : ActorState) → Keeps a (fd_read a)
read_keeps a =
    keeps_if a (refuses a code.Bad) _ (not (fits_write a (a1 a) (a2 a))) refl
    (keeps_if a (refuses a code.FuelShort) _ (nat_lt a.fuel (a2 a)) refl
    (keeps_if a (refuses a code.NoSuch) _ (nat_le most_fds (a0 a)) refl refl))

right_keeps : (a : ActorState) (d : Draft) (r : Option Right) → Keeps a (add_right a d r)
right_keeps a d None = refl
right_keeps a d (Some r) = keeps_if a _ (refuses a code.Full) (takes_tag d (a1 a)) refl refl

right_to_keeps : (a : ActorState) (d : Option Draft) → Keeps a (add_right_to a d)
right_to_keeps a None = refl
right_to_keeps a (Some d) = right_keeps a d (right_asked (a2 a))

bits_keep : (a : ActorState) (d : Draft) (b : Option FdBits) → Keeps a (add_bits a d b)
bits_keep a d None = refl
bits_keep a d (Some b) = keeps_if a _ (refuses a code.Full) (takes_fd d (a1 a)) refl refl

bits_to_keep : (a : ActorState) (d : Option Draft) → Keeps a (add_bits_to a d)
bits_to_keep a None = refl
bits_to_keep a (Some d) = bits_keep a d (bits_asked (a2 a))

gate_keeps : (i : Image) (a : ActorState) (d : Option Draft) → Keeps a (add_gate_to i a d)
gate_keeps i a None = refl
gate_keeps i a (Some d) = keeps_if a (refuses a code.Bad) _ (not (is_procedure i (a1 a))) refl (keeps_if a _ (refuses a code.Full) (takes_gate d (a1 a)) refl refl)

user_keeps : (a : ActorState) (d : Option Draft) → Keeps a (set_user a d)
user_keeps a None = refl
user_keeps a (Some d) = refl

path_keeps : (a : ActorState) (d : Draft) (path : Option (List ℕ)) → Keeps a (put_root a d path)
path_keeps a d None = refl
path_keeps a d (Some path) = keeps_if a (refuses a code.FuelShort) _ (nat_lt a.fuel (a2 a)) refl refl

root_keeps : (a : ActorState) (path : Option (List ℕ)) (d : Option Draft) → Keeps a (set_root a path d)
root_keeps a path None = refl
root_keeps a path (Some d) = path_keeps a d path

draft_keeps : (i : Image) (a : ActorState) (n : ℕ) → Keeps a (draft_call i a n)
draft_keeps i a n =
    keeps_if a (sc_new a) _ (n == 7) (keeps_if a (refuses a code.Full) _ (nat_le most_drafts (length a.drafts)) refl refl)
    (keeps_if a (sc_mem_add a) _ (n == 8) (right_to_keeps a (slice_get a.drafts (a0 a)))
    (keeps_if a (sc_fd_add a) _ (n == 9) (bits_to_keep a (slice_get a.drafts (a0 a)))
    (keeps_if a (sc_cgate_add i a) _ (n == 10) (gate_keeps i a (slice_get a.drafts (a0 a)))
    (keeps_if a (sc_user a) _ (n == 11) (user_keeps a (slice_get a.drafts (a0 a)))
    (keeps_if a (sc_root i a) _ (n == 12) (root_keeps a (path_in i a (a1 a) (a2 a)) (slice_get a.drafts (a0 a))) refl)))))

made_keeps : (a : ActorState) (d : Draft) (p : Preparation) (gs : List CopyGrant) → Keeps a (makes_or_waits a d p gs)
made_keeps a d p [] = refl
made_keeps a d p (g ∷ gs) = refl

make_checked_keeps : (i : Image) (a : ActorState) (d : Draft) (o : Option Denial) → Keeps a (make_checked i a d o)
make_checked_keeps i a d (Some x) = refl
make_checked_keeps i a d None = made_keeps a d _ _

make_keeps : (i : Image) (a : ActorState) (d : Option Draft) → Keeps a (make_with i a d)
make_keeps i a None = refl
make_keeps i a (Some d) = keeps_if a (refuses a code.Bad) _ (not (may_be_gate i a d)) refl (make_checked_keeps i a d (first_excess a.sheet a.made d))

entry_keeps : (a : ActorState) (g : Gate) (lent : Option Draft) (d : Option Denial) → Keeps a (enter_checked a g lent d)
entry_keeps a g lent (Some d) = refl
entry_keeps a g lent None =
    keeps_if a (refuses a code.Deep) _ (nat_le most_parts (length a.name)) refl (keeps_if a (refuses a code.FuelShort) _ (nat_lt a.fuel g.fuel) refl refl)

lending_keeps : (a : ActorState) (g : Gate) (lent : Option (Option Draft)) → Keeps a (enter_lending a g lent)
lending_keeps a g None = refl
lending_keeps a g (Some lent) = keeps_if a (refuses a code.Bad) _ (not (may_lend lent)) refl (entry_keeps a g lent (excess_lent a lent))

enter_keeps : (a : ActorState) (g : Option Gate) → Keeps a (enter_held a g)
enter_keeps a None = refl
enter_keeps a (Some g) = lending_keeps a g (lent_asked a.drafts (a2 a))

create_keeps : (i : Image) (a : ActorState) (d : Option Draft) → Keeps a (create_with i a d)
create_keeps i a None = refl
create_keeps i a (Some d) = keeps_if a (refuses a code.Bad) _ (not (is_procedure i (a1 a))) refl (checked_keeps (first_excess a.sheet a.made d))
  where
    checked_keeps : (d : Option Denial) → Keeps a (create_checked a d)
    checked_keeps (Some d) = refl
    checked_keeps None = keeps_if a (refuses a code.Deep) _ (nat_le most_parts (length a.name)) refl (keeps_if a (refuses a code.FuelShort) _ (nat_lt a.fuel (a3 a)) refl refl)

join_keeps : (a : ActorState) → Keeps a (join a)
join_keeps a = keeps_if a _ (refuses a code.NoSuch) (is_child a.unjoined (a0 a)) refl refl

smalloc_keeps : (a : ActorState) → Keeps a (smalloc a)
smalloc_keeps a = keeps_if a (refuses a code.Bad) _ (a1 a == 0) refl (keeps_if a _ (denies a (denial.Tag (a0 a) right.ReadWrite)) (at_least (right_of a (a0 a)) right.ReadWrite) refl refl)

free_keeps : (a : ActorState) (p : Option Place) → Keeps a (free_at a p)
free_keeps a None = refl
free_keeps a (Some p) = refl

file_keeps : (a : ActorState) (path : List ℕ) (b : FdBits) (f : Option FileEntry) → Keeps a (open_file a path b f)
file_keeps a path b None = refl
file_keeps a path b (Some f) = keeps_if a (denies a (denial.File path)) _ (not (may_open a.sheet.user f b)) refl (keeps_if a (refuses a code.Bad) _ (not (suits f.kind b)) refl refl)

open_keeps : (i : Image) (a : ActorState) (b : Option FdBits) (path : Option (List ℕ)) → Keeps a (open_path i a b path)
open_keeps i a None path = refl
open_keeps i a (Some b) None = refl
open_keeps i a (Some b) (Some path) = keeps_if a (refuses a code.FuelShort) _ (nat_lt a.fuel (a1 a)) refl (file_keeps a path b (file_at i path))

pub call_keeps : (i : Image) (a : ActorState) (n : ℕ) → Keeps a (serves i a n)
unfolding serves
call_keeps i a n =
    keeps_if a (exit a) _ (n == 0) refl
    (keeps_if a (create i a) _ (n == 1) (create_keeps i a (slice_get a.drafts (a0 a)))
    (keeps_if a (join a) _ (n == 2) (join_keeps a)
    (keeps_if a (tag_new a) _ (n == 3) (keeps_if a _ (refuses a code.Bad) (are_pages (a0 a)) refl refl)
    (keeps_if a (tag_delete a) _ (n == 4) (keeps_if a _ (denies a (denial.NotMaker (a0 a))) (has a.made.tags (a0 a)) refl refl)
    (keeps_if a (smalloc a) _ (n == 5) (smalloc_keeps a)
    (keeps_if a (sfree a) _ (n == 6) (free_keeps a (slot_of (a0 a)))
    (keeps_if a (cgate_make i a) _ (n == 13) (make_keeps i a (slice_get a.drafts (a0 a)))
    (keeps_if a (cgate a) _ (n == 14) (enter_keeps a (gate_held a (a0 a)))
    (keeps_if a (fd_read a) _ (n == 15) (read_keeps a)
    (keeps_if a (fd_append i a) _ (n == 16) (append_keeps i a)
    (keeps_if a (fd_close a) _ (n == 17) (keeps_if a (refuses a code.NoSuch) _ (nat_le most_fds (a0 a)) refl refl)
    (keeps_if a (file_open i a) _ (n == 18) (open_keeps i a (mode_asked (a2 a)) (path_in i a (a0 a) (a1 a))) (draft_keeps i a n)))))))))))))

-- an instruction
need_remembers : (i : Image) (ins : Instr) (a : ActorState) (h : Hart) (n : Need) → NeedRemembers i ins.rd a n (step_with_need i ins a h n)
need_remembers i ins a h need.Done = refl
need_remembers i ins a h (need.Load address width s) = load_gives i ins s a address width _ _ (range_at a.memory.ranges address width)
need_remembers i ins a h (need.Store address width value) = store_writes a address width value _ _ (range_at a.memory.ranges address width) refl
need_remembers i ins a h need.Call = call_keeps i a (a7 a)
need_remembers i ins a h need.Break = refl
need_remembers i ins a h need.JumpMisaligned = refl

instr_remembers : (i : Image) (a : ActorState) (ins : Option Instr) → InstrRemembers i a ins (step_with_instr i a ins)
instr_remembers i a None = refl
instr_remembers i a (Some ins) = need_remembers i ins a (local ins a.hart).hart (local ins a.hart).need

word_remembers : (i : Image) (a : ActorState) (n : ℕ) (o : Option ℕ) → a.fuel ≡ n → WordRemembers i a (option_and_then decode o) n (step_with_word i a o)
word_remembers i a zero None has = refl
word_remembers i a (suc n) None has = refl
word_remembers i a zero (Some word) has = ap (λ (x : ActorState). x.memory) (ap (step_with_fuel i a word) has)
word_remembers i a (suc n) (Some word) has =
    let left : n ≡ a.fuel - 1 = omega (arith, has) in
    let is : step_with_instr i (record a { fuel = n }) (decode word) ≡ step_with_fuel i a word a.fuel = ap (λ m. step_with_instr i (record a { fuel = m }) (decode word)) left ∙ sym (ap (step_with_fuel i a word) has) in
    subst (InstrRemembers i (record a { fuel = n }) (decode word)) is (instr_remembers i (record a { fuel = n }) (decode word))

pub step_remembers : (i : Image) (a : ActorState) → WordRemembers i a (option_and_then decode (fetch i a.hart.pc)) a.fuel (step i a)
unfolding step
step_remembers i a = word_remembers i a a.fuel (fetch i a.hart.pc) refl

-- an event
loaded_keeps : (ins : Instr) (n : Need) (a : ActorState) (value : ℕ) → Keeps a (loads_by ins n a value)
loaded_keeps ins (need.Load address width s) a value = refl
loaded_keeps ins n a value = refl

loads_keep : (a : ActorState) (ins : Option Instr) (value : ℕ) → Keeps a (loads_at a ins value)
loads_keep a None value = refl
loads_keep a (Some ins) value = loaded_keeps ins (local ins a.hart).need a value

-- a read that was given bytes
abbrev pub IsNoGift : Event → Type 0
IsNoGift (event.Fd fd q (reply.Given bytes)) = ⊥
IsNoGift e = Unit {0}

pub memory_is : (i : Image) (a : ActorState) (e : Event) → IsNoGift e → (takes i a e).memory ≡ memory_after a.memory e
unfolding takes
memory_is i a (event.Slot slot q (slot_reply.Loaded value)) k = loads_keep (runs a) (option_and_then decode (fetch i a.hart.pc)) value
memory_is i a (event.Slots (directory_ask.Release place) r) k = refl
memory_is i a (event.Slots directory_ask.Claim (directory_reply.Claimed place number)) k = refl
memory_is i a (event.Slots directory_ask.Claim directory_reply.Full) k = refl
memory_is i a (event.Slots directory_ask.Claim directory_reply.Released) k = refl
memory_is i a (event.Slot slot q (slot_reply.Snapped pages)) k = snapped_is (λ x. x.memory ≡ a.memory) a a.phase slot (Some (bytes_listed pages)) refl (λ x. refl) (λ x. refl) (λ g. refl)
memory_is i a (event.Slot slot q slot_reply.Gone) k = snapped_is (λ x. x.memory ≡ a.memory) a a.phase slot None refl (λ x. refl) (λ x. refl) (λ g. refl)
memory_is i a (event.Slot slot (slot_ask.Sfree offset live) (slot_reply.Denied tag wants)) k = refl
memory_is i a (event.Slot slot (slot_ask.Open tag pages) slot_reply.Opened) k = refl
memory_is i a (event.Slot slot q r) k = refl
memory_is i a (event.Fds (directory_ask.Release place) r) k = refl
memory_is i a (event.Fds directory_ask.Claim (directory_reply.Claimed fd number)) k = numbered_is (λ x. x.memory ≡ a.memory) a a.phase fd refl (λ o. refl)
memory_is i a (event.Fds directory_ask.Claim directory_reply.Full) k = refl
memory_is i a (event.Fds directory_ask.Claim directory_reply.Released) k = refl
memory_is i a (event.Fd fd q reply.Opened) k = opened_is (λ x. x.memory ≡ a.memory) a a.phase fd refl (λ o. refl)
memory_is i a (event.Fd fd q (reply.Given bytes)) k = absurd k
memory_is i a (event.Fd fd q reply.Appended) k = refl
memory_is i a (event.Fd fd q reply.Closed) k = refl
memory_is i a (event.Fd fd q reply.NoSuch) k = refl
memory_is i a (event.Fd fd q (reply.Denied wants)) k = refl
memory_is i a (event.Fd fd q reply.Bad) k = refl
memory_is i a (event.Lives lives_ask.Claim lives_reply.Claimed) k = refl
memory_is i a (event.Lives lives_ask.Claim lives_reply.Full) k = refl
memory_is i a (event.Lives lives_ask.Claim lives_reply.Released) k = refl
memory_is i a (event.Lives (lives_ask.Release x) r) k = refl
memory_is i a (event.Join child e fuel) k = joined_is (λ x. x.memory ≡ a.memory) (record a { fuel = a.fuel + fuel; unjoined = without_child a.unjoined child }) a.phase e refl refl
memory_is i a (event.Enter run) k = entered_is (λ x. x.memory ≡ a.memory) a a.phase refl (λ x. refl)
memory_is i a (event.Gate id (gate_ask.Enter run first) (gate_reply.Entered memory)) k = entered_is (λ x. x.memory ≡ a.memory) a a.phase refl (λ x. refl)
memory_is i a e k = refl

-- no event but an opening, or an end, changes the copies
pub event_copies : (i : Image) (a : ActorState) (e : Event) → (takes i a e).memory.copies ≡ (memory_after a.memory e).copies
unfolding takes
event_copies i a (event.Fd fd q (reply.Given bytes)) = refl
event_copies i a (event.Fds q r) = ap (λ (m : PrivateMemory). m.copies) (memory_is i a (event.Fds q r) tt)
event_copies i a (event.Fd fd q reply.Opened) = ap (λ (m : PrivateMemory). m.copies) (memory_is i a (event.Fd fd q reply.Opened) tt)
event_copies i a (event.Fd fd q reply.Appended) = refl
event_copies i a (event.Fd fd q reply.Closed) = refl
event_copies i a (event.Fd fd q reply.NoSuch) = refl
event_copies i a (event.Fd fd q (reply.Denied wants)) = refl
event_copies i a (event.Fd fd q reply.Bad) = refl
event_copies i a (event.Slots q r) = ap (λ (m : PrivateMemory). m.copies) (memory_is i a (event.Slots q r) tt)
event_copies i a (event.Slot slot q r) = ap (λ (m : PrivateMemory). m.copies) (memory_is i a (event.Slot slot q r) tt)
event_copies i a (event.Lives q r) = ap (λ (m : PrivateMemory). m.copies) (memory_is i a (event.Lives q r) tt)
event_copies i a (event.Join k x fuel) = ap (λ (m : PrivateMemory). m.copies) (memory_is i a (event.Join k x fuel) tt)
event_copies i a (event.Enter run) = ap (λ (m : PrivateMemory). m.copies) (memory_is i a (event.Enter run) tt)
event_copies i a (event.Gate id (gate_ask.Enter run first) (gate_reply.Entered memory)) = ap (λ (m : PrivateMemory). m.copies) (memory_is i a (event.Gate id (gate_ask.Enter run first) (gate_reply.Entered memory)) tt)
event_copies i a e = refl

-- an event that gives nothing is remembered as one
without_gift : (i : Image) (a : ActorState) (e : Event) → IsNoGift e → EventRemembers a e (takes i a e)
without_gift i a (event.Fd fd q (reply.Given bytes)) k = absurd k
without_gift i a (event.Fd fd q reply.Opened) k = memory_is i a (event.Fd fd q reply.Opened) tt
without_gift i a (event.Fd fd q reply.Appended) k = memory_is i a (event.Fd fd q reply.Appended) tt
without_gift i a (event.Fd fd q reply.Closed) k = memory_is i a (event.Fd fd q reply.Closed) tt
without_gift i a (event.Fd fd q reply.NoSuch) k = memory_is i a (event.Fd fd q reply.NoSuch) tt
without_gift i a (event.Fd fd q (reply.Denied wants)) k = memory_is i a (event.Fd fd q (reply.Denied wants)) tt
without_gift i a (event.Fd fd q reply.Bad) k = memory_is i a (event.Fd fd q reply.Bad) tt
without_gift i a e k = memory_is i a e k

stream_remembers : (i : Image) (a : ActorState) (fd : ℕ) (q : StreamAsk) (s : Option Stream) → IsStreamRequest a fd q
    → EventRemembers a (event.Fd fd q (stream_reply_of s q)) (takes i a (event.Fd fd q (stream_reply_of s q)))
stream_remembers i a fd (stream_ask.Open k bytes) s own = absurd own
stream_remembers i a fd (stream_ask.Read bits count) s own = read_remembers i a fd count bits s own.1 own.3
stream_remembers i a fd (stream_ask.Append bits bytes) s own =
    without_gift i a (event.Fd fd (stream_ask.Append bits bytes) (stream_reply_of s (stream_ask.Append bits bytes)))
    (append_cases (λ r. IsNoGift (event.Fd fd (stream_ask.Append bits bytes) r)) s bits bytes tt tt tt tt)
stream_remembers i a fd (stream_ask.Close bits) s own =
    without_gift i a (event.Fd fd (stream_ask.Close bits) (stream_reply_of s (stream_ask.Close bits)))
    (close_cases (λ r. IsNoGift (event.Fd fd (stream_ask.Close bits) r)) s bits tt (λ k. tt) tt)

want_remembers : (i : Image) (c : Cells) (b : ActorState) (N : ℕ → Type 0) (q : Want) → IsRequest N b q → EventRemembers b (event_for c b q) (takes i b (event_for c b q))
want_remembers i c b N (want.Slots q) own = without_gift i b (event_for c b (want.Slots q)) tt
want_remembers i c b N (want.Slot slot q) own = without_gift i b (event_for c b (want.Slot slot q)) tt
want_remembers i c b N (want.Fd fd q) own = stream_remembers i b fd q (stream_in c fd) own
want_remembers i c b N (want.Lives q) own = without_gift i b (event_for c b (want.Lives q)) tt
want_remembers i c b N q own = absurd own

gift_free : (i : Image) (a : ActorState) (e : Event) {f : Event} → e ≡ f → IsNoGift f → EventRemembers a e (takes i a e)
gift_free i a e is none = without_gift i a e (subst IsNoGift (sym is) none)

pub event_remembers : (w : WorldState) (b : ActorState) (e : Event) → Happens w b e → EventRemembers b e (takes w.image b e)
event_remembers w b e (Requested r) = subst (λ y. EventRemembers b y (takes w.image b y)) (sym r.is) (want_remembers w.image w.cells b _ r.want r.own)
event_remembers w b e (Joined j) = gift_free w.image b e j.join.is tt
event_remembers w b e (Snaps s) = gift_free w.image b e s.is tt
event_remembers w b e (GateSnaps s) = gift_free w.image b e s.is tt
event_remembers w b e (Started s) = gift_free w.image b e s.is tt
event_remembers w b e (Opens o) = gift_free w.image b e o.is tt
event_remembers w b e (Releases r) = gift_free w.image b e r.is tt
event_remembers w b e (Numbers n) = gift_free w.image b e n.is tt
event_remembers w b e (OpensFile f) = gift_free w.image b e f.is tt
event_remembers w b e (LastJoined j) = gift_free w.image b e j.join.is tt
event_remembers w b e (Ended f) = gift_free w.image b e f.is tt
event_remembers w b e (EntersGate x) = gift_free w.image b e x.is tt
event_remembers w b e (EntersRecycled x) = gift_free w.image b e x.is tt
event_remembers w b e (LeavesGate l) = gift_free w.image b e l.is tt
event_remembers w b e (LeavesRecycled l) = gift_free w.image b e l.is tt
