-- What an instruction comes to: the request that it makes, its end, and the code with which it is refused.
use Rattle.std.proofs.Common.{◌≡◌, ◌⊎◌, ℕ, zero, suc, ◌+◌, ◌-◌, ◌*◌, ◌/◌, ◌%◌, ◌≤◌, ◌<◌, Bool, true, false, true≢false, List, [], refl, sym, ap, subst, ◌∙◌, arith, inl, inr}
use Rattle.std.proofs.lemmas.Bool.{eqb-true}
use Rattle.std.proofs.lemmas.Bool.Decides.{nat_tests}
use Rattle.std.specs.Prelude.{Option, Some, None, is_some, option_map, option_and_then, not, ◌&&◌, ◌||◌, ◌==◌, nat_lt, nat_le, if◌then◌else◌, ◌∷◌, ◌++◌, length, slice_get, slice_range, is_none, unwrap_or}
use Rattle.wedge_base.specs.Images.{Image, fetch, read_text, slot_of, slots as most_slots, window, windows_base}
use Rattle.wedge_base.specs.Maps.{has}
use Rattle.wedge_base.specs.Bytes.{number_of}
use Rattle.wedge_base.specs.Memory.{range_at, read_range}
use Rattle.wedge_events.specs.Streams.{most_fds}
use Rattle.wedge_base.specs.declared.address.Place.{Place}
use Rattle.wedge_base.specs.declared.image.MemoryRange.{MemoryRange}
use Rattle.wedge_base.specs.declared.rights.End.{End}
use Rattle.wedge_base.specs.declared.rights.End.TheVariants as end_
use Rattle.wedge_base.specs.declared.rights.Code.{Code}
use Rattle.wedge_base.specs.declared.rights.Code.TheVariants as code
use Rattle.wedge_events.specs.declared.events.SlotWant.TheVariants as slot_want
use Rattle.wedge_events.specs.declared.events.Want.{Want}
use Rattle.wedge_events.specs.declared.events.Want.TheVariants as want
use Rattle.wedge_events.specs.declared.cells.DirectoryAsk.TheVariants as directory_ask
use Rattle.wedge_events.specs.declared.cells.StreamAsk.{StreamAsk}
use Rattle.wedge_events.specs.declared.cells.StreamAsk.TheVariants as stream_ask
use Rattle.rv_isa.specs.declared.Instr.{Instr}
use Rattle.rv_isa.specs.declared.Op.{Op}
use Rattle.rv_isa.specs.declared.Op.TheVariants as op
use Rattle.rv_isa.specs.Table.{decode}
use Rattle.rv_hart.specs.declared.Hart.{Hart}
use Rattle.rv_hart.specs.declared.Need.{Need}
use Rattle.rv_hart.specs.declared.Need.TheVariants as need
use Rattle.rv_hart.specs.Local.{local, HasWidth, branches, put, next_pc, needs_first}
use Rattle.machine.specs.declared.phase.Phase.{Phase}
use Rattle.machine.specs.declared.phase.Phase.TheVariants as phase
use Rattle.wedge_base.specs.Files.{bits_from, may_open}
use Rattle.wedge_base.specs.Rights.{bits_within}
use Rattle.wedge_base.specs.declared.image.FileEntry.{FileEntry}
use Rattle.wedge_base.specs.declared.rights.FdBits.{FdBits}
use Rattle.wedge_base.specs.declared.rights.StreamKind.{StreamKind}
use Rattle.wedge_base.specs.declared.rights.StreamKind.TheVariants as kind
use Rattle.machine.specs.Actors.{ActorState, answers, bits_of, slot_held, code_number, denies, ends, refuses, wants, spends, pristine, gate_held}
use Rattle.cow_pages.specs.Copies.{copy_at, holds_copy}
use Rattle.machine.specs.Accesses.{load_bytes, load_copy, load_window, load_range, store_copy, store_window, store_range, has_loaded, fits_read, fits_write, buffer}
use Rattle.wedge_base.specs.Sheets.{Draft, empty_draft, takes_tag, takes_fd, takes_gate, with_gate, first_excess, sheet_of_draft}
use Rattle.wedge_events.specs.Slots.{Segment, IsAligned}
use Rattle.wedge_base.specs.declared.rights.Denial.{Denial}
use Rattle.wedge_base.specs.declared.rights.Denial.TheVariants as denial
use Rattle.wedge_events.specs.declared.cells.LivesAsk.TheVariants as lives_ask
use Rattle.wedge_base.specs.declared.rights.Right.TheVariants as right
use Rattle.run_laws.proofs.Buffers.{buffer_is, path_is}
use Rattle.machine.specs.Calls.{serves, is_procedure, create_with, create_checked, create_allowed, are_pages, free_at, fd_read, fd_append, fd_close, sc_new, add_right, add_right_to, sc_mem_add, add_bits, add_bits_to, sc_fd_add, add_gate_to, sc_cgate_add, with_draft, read_append_bits, a0, a1, a2, a3, a7, set_user, sc_user, path_in, set_root, sc_root, draft_call, file_at, mode_asked, suits, open_file, open_path, file_open, a4, new_gate, has_gate, makes_or_waits, may_be_gate, make_checked, make_with, enter_allowed, enter_checked, enter_lending, enter_held, lent_asked, entrance_of}
use Rattle.machine.specs.Local.{step_with_need, step_with_instr, step_with_fuel, step_with_word, step, is_running, run_local, rest}
use Rattle.machine.proofs.Resting.{stays, goes_on, running_is}
use Rattle.run_laws.proofs.StreamCalls.{stream_request, stream_refusal, IsStreamRequest, request_at_phase, refusal_at_phase, stream_event}
use Rattle.machine.specs.Cells.{Cells, slot_in, stream_in}
use Rattle.run_laws.specs.Refusals.{fuel_short, full, deep, no_such, bad, start_refusal, create_refusal, pages_refusal, address_refusal, life_refusal, slots_refusal, close_refusal, place_refusal, block_refusal, free_refusal, call_refusal, call_refusal_after, right_refusal, bits_refusal, gate_refusal, number_refusal, read_refusal, append_refusal, need_refusal, instr_refusal, word_refusal, refusal_at, read_refusal_after, append_refusal_after, stream_close_refusal, need_refusal_after, instr_refusal_after, word_refusal_after, refusal_after, refused, user_refusal, root_refusal, draft_refusal, file_refusal, open_refusal, make_refusal, entry_refusal, lending_refusal, enter_refusal}
use Rattle.run_laws.specs.Requests.{Access, Request, Loads, Stores, Reads, Appends, Closes, Creates, Deletes, Allots, Frees, create_of, in_tag, in_window, buffer_bytes, in_stream, is_room, read_of, append_of, close_of, free_of, call_request, needed_request, instr_request, word_request, request_at, Opens, bits_to_open, file_of, path_at, open_of, Makes, suits_gate, make_of, Enters, lent_of, lending_of, enter_of}
use Rattle.run_laws.specs.Allowed.{may_use, may_be_opened, lacks, is_refused, is_checked_at_event, denied as denied_of, fits_kind, opened_as, HasBegunGate, IsAboutToEnter, enter_lacks, enter_refused}
use Rattle.machine.specs.Children.{is_child}
use Rattle.run_laws.specs.Ends.{end_of, copy_end, window_end, needed_end, instr_end, fuel_end, word_end, end_at}
use Rattle.run_laws.specs.MadeGates.{IsGateOf}
use Rattle.machine.specs.Opening.{FileOpening}
use Rattle.machine.specs.CopyGrant.{copy_grants}
use Rattle.machine.specs.Preparation.{Preparation, prepare_copies}
use Rattle.machine.specs.Take.{copies_asked}
use Rattle.machine.specs.declared.copy_grant.CopyGrant.{CopyGrant}
use Rattle.run_laws.proofs.MakingGates.{MayGrant, IsMakeable, granting_at, prepared_left}
use Rattle.cow_pages.specs.PrivateMemory.{PrivateMemory}
use Rattle.grant_sheet.proofs.SheetWithin.{sheet_within}
use Rattle.machine.specs.Entering.{may_lend, excess_lent}
use Rattle.callgate.specs.declared.gate.Gate.{Gate}
use Rattle.run_laws.proofs.EnteringGates.{IsEnterable, enterable_at}
use Rattle.run_laws.proofs.Drafted.{is_drafted}

-- the request that is in question in what an actor wants
abbrev pub request_for : Cells → ActorState → ℕ → Bool → Want → Option Request
request_for c a rd s (want.Slot slot (slot_want.Load offset width)) = in_tag (λ x. Loads x rd s) (record { slot = slot; offset = offset }) width (slot_in c slot)
request_for c a rd s (want.Slot slot (slot_want.Store offset width value)) = in_tag (λ x. Stores x value) (record { slot = slot; offset = offset }) width (slot_in c slot)
request_for c a rd s (want.Fd fd q) = stream_request fd q (stream_in c fd)
request_for c a rd s (want.Slot slot (slot_want.Close tag)) = Some (Deletes tag)
request_for c a rd s (want.Slot slot (slot_want.Smalloc tag size)) = Some (Allots tag size)
request_for c a rd s (want.Slot slot (slot_want.Sfree offset)) = option_map (Frees (record { slot = slot; offset = offset })) (slot_in c slot)
request_for c a rd s (want.Lives lives_ask.Claim) = option_map (λ d. Creates d) (slice_get a.drafts (a0 a))
request_for c a rd s q = None

-- the code with which its event refuses it
abbrev pub refusal_for : Cells → ActorState → Want → Option ℕ
refusal_for c a (want.Slots directory_ask.Claim) = slots_refusal c.places
refusal_for c a (want.Slot slot (slot_want.Close tag)) = close_refusal tag (slot_in c slot)
refusal_for c a (want.Slot slot (slot_want.Smalloc tag size)) = place_refusal tag size (slot_in c slot)
refusal_for c a (want.Slot slot (slot_want.Sfree offset)) = block_refusal a offset (slot_in c slot)
refusal_for c a (want.Fd fd q) = stream_refusal a fd q (stream_in c fd)
refusal_for c a (want.Lives lives_ask.Claim) = life_refusal c.lives
refusal_for c a q = None

-- an actor that is about to start a child: the draft is there, every grant of which it may give, its name has room, and it has
-- the fuel
pub record IsStartable (a : ActorState) : Type 0 where
  pub draft : Draft
  pub drafted : slice_get a.drafts (a0 a) ≡ Some draft
  pub allowed : first_excess a.sheet a.made draft ≡ None
  pub shallow : nat_lt (length a.name) 32 ≡ true
  pub enough : a3 a ≤ a.fuel

-- so it is at whatever phase
pub startable_at : (a : ActorState) (p : Phase) → IsStartable a → IsStartable (record a { phase = p })
startable_at a p s = record { draft = s.draft; drafted = s.drafted; allowed = s.allowed; shallow = s.shallow; enough = s.enough }

-- an actor asks for pages that a tag may have, deletes a tag that it made, and places a block in one that it may write to
abbrev pub AsksForPages : ActorState → Type 0
AsksForPages a = are_pages (a0 a) ≡ true

abbrev pub MayDelete : ActorState → ℕ → ℕ → Type 0
MayDelete a slot tag = (has a.made.tags tag ≡ true) × (slot ≡ slot_held a tag)

abbrev pub MayAllot : ActorState → ℕ → ℕ → ℕ → Type 0
MayAllot a slot tag size = (may_use a tag right.ReadWrite ≡ true) × (slot ≡ slot_held a tag) × ((size == 0) ≡ false)

-- the wants that are requests today; N is what is known where a load is wanted
abbrev pub IsRequest : (ℕ → Type 0) → ActorState → Want → Type 0
IsRequest N a (want.Slots directory_ask.Claim) = AsksForPages a
IsRequest N a (want.Slot slot (slot_want.Close tag)) = MayDelete a slot tag
IsRequest N a (want.Slot slot (slot_want.Smalloc tag size)) = MayAllot a slot tag size
IsRequest N a (want.Slot slot (slot_want.Sfree offset)) = Unit {0}
IsRequest N a (want.Slot slot (slot_want.Load offset width)) = N width
IsRequest N a (want.Slot slot (slot_want.Store offset width value)) = Unit {0}
IsRequest N a (want.Fd fd q) = IsStreamRequest a fd q
IsRequest N a (want.Lives lives_ask.Claim) = IsStartable a
IsRequest N a q = ⊥

-- what an instruction may come to: a request, or the join of a child
abbrev pub IsWanted : (ℕ → Type 0) → ActorState → Want → Type 0
IsWanted N a (want.Join k) = (is_child a.unjoined k ≡ true) × (k ≡ a0 a)
IsWanted N a q = IsRequest N a q

-- the part of a slot that a load, a store or a free asks for, and the descriptor that a call names, are there
abbrev pub IsPlaced : ℕ → ℕ → ℕ → Type 0
IsPlaced slot offset width = (slot < most_slots) × IsAligned offset width

abbrev pub IsInCell : Want → Type 0
IsInCell (want.Slot slot (slot_want.Load offset width)) = IsPlaced slot offset width
IsInCell (want.Slot slot (slot_want.Store offset width value)) = IsPlaced slot offset width
IsInCell (want.Slot slot (slot_want.Sfree offset)) = (slot < most_slots) × (offset < window)
IsInCell (want.Fd fd q) = fd < most_fds
IsInCell q = Unit {0}

-- what an actor opens: the file that its request asks for, which is allowed and not refused
pub record IsOpening (a : ActorState) (asked : Cells → Option Request) (o : FileOpening) : Type 0 where
  pub path : List ℕ
  pub file : FileEntry
  pub bits : FdBits
  pub told : (c : Cells) → asked c ≡ Some (Opens path file bits)
  pub allowed : lacks a (Opens path file bits) ≡ None
  pub passed : is_refused a (Opens path file bits) ≡ false
  pub is : o ≡ record (opened_as path file bits) { number = o.number }

-- where an instruction leaves its actor, if it wants something
abbrev pub WantsAs : (ℕ → Bool → ℕ → Type 0) → ActorState → (Cells → Option Request) → (Cells → Option ℕ) → ActorState → Phase → Type 0
WantsAs N a asked later x (phase.Within q) = (rd : ℕ) × (s : Bool) × (x ≡ record a { phase = phase.Within q }) × ((c : Cells) → asked c ≡ request_for c a rd s q) × IsWanted (N rd s) a q × ((c : Cells) → later c ≡ refusal_for c a q) × IsInCell q
WantsAs N a asked later x phase.Running = Unit {0}
WantsAs N a asked later x (phase.Starting pre) = ⊥
WantsAs N a asked later x (phase.MakingGate pre) = (x ≡ record a { phase = phase.MakingGate pre }) × IsMakeable a pre
WantsAs N a asked later x (phase.Opening slot tag) = ⊥
WantsAs N a asked later x (phase.Releasing slot) = ⊥
WantsAs N a asked later x (phase.Entering entrance) = (x ≡ record a { phase = phase.Entering entrance }) × IsEnterable a entrance
WantsAs N a asked later x (phase.Waiting number) = ⊥
WantsAs N a asked later x (phase.OpeningFile o) = (x ≡ record a { phase = phase.OpeningFile o }) × (o.number ≡ None) × (a1 a ≤ a.fuel) × IsOpening a asked o
WantsAs N a asked later x (phase.Ending e) = Unit {0}
WantsAs N a asked later x (phase.Ended e) = Unit {0}

-- what a request that is checked at once comes to
abbrev pub phase_for : ActorState → Request → Phase
phase_for a (Deletes tag) = phase.Within (want.Slot (slot_held a tag) (slot_want.Close tag))
phase_for a (Allots tag size) = phase.Within (want.Slot (slot_held a tag) (slot_want.Smalloc tag size))
phase_for a (Opens path f b) = phase.OpeningFile (opened_as path f b)
phase_for a r = phase.Within (want.Lives lives_ask.Claim)

-- what is left of one that is done: its actor comes to its event, has made a gate or waits for copies of tags for it, or is about to enter one
abbrev pub DoneNow : ActorState → Request → ActorState → Type 0
DoneNow a (Makes d) x = HasBegunGate a d x
DoneNow a (Enters entry lent) x = IsAboutToEnter a entry lent x
DoneNow a r x = x ≡ record a { phase = phase_for a r }

-- a request that is checked at once: the actor is denied, or comes to its event, or is refused
pub record IsCheckedNow (a : ActorState) (r : Request) (x : ActorState) : Type 0 where
  pub denied : (d : Denial) → lacks a r ≡ Some d → x ≡ denied_of a r d
  pub done : lacks a r ≡ None → is_refused a r ≡ false → DoneNow a r x
  pub refused : lacks a r ≡ None → is_refused a r ≡ true → (x.phase ≡ phase.Running) × (x.denials ≡ a.denials)

-- what an instruction makes of its actor where it makes a request
abbrev pub MetBy : ActorState → Request → ActorState → Type 0
MetBy a r x = elim (is_checked_at_event r) [ true ↦ (q : Want) × (x ≡ record a { phase = phase.Within q }) | false ↦ IsCheckedNow a r x ]

-- asked: its request; later: the code with which its event refuses it; ended: its end; told: the code with
-- which it is refused itself
pub record Comes (N : ℕ → Bool → ℕ → Type 0) (a : ActorState) (asked : Cells → Option Request) (later : Cells → Option ℕ) (ended : Option End) (told : Option ℕ) (x : ActorState) : Type 0 where
  pub name : x.name ≡ a.name
  pub quiet : (c : Cells) → asked c ≡ None → x.denials ≡ a.denials
  pub met : (c : Cells) (r : Request) → asked c ≡ Some r → MetBy a r x
  pub ends : end_of x.phase ≡ ended
  pub wants : WantsAs N a asked later x x.phase
  pub codes : (n : ℕ) → told ≡ Some n → x ≡ refused a n

no_request : {X : Type 0} (o : Option Request) (r : Request) → o ≡ None → o ≡ Some r → X
no_request None r e f = absurd cc
no_request (Some q) r e f = absurd cc

-- the leaves: an end, an actor that goes on, and one that is refused
comes_end : (N : ℕ → Bool → ℕ → Type 0) (a : ActorState) (asked : Cells → Option Request) (later : Cells → Option ℕ) (e : End) → ((c : Cells) → asked c ≡ None) → Comes N a asked later (Some e) None (ends a e)
comes_end N a asked later e none = record { name = refl; quiet = λ c h. refl; met = λ c r h. no_request (asked c) r (none c) h; ends = refl; wants = tt; codes = λ n h. absurd cc }

comes_on : (N : ℕ → Bool → ℕ → Type 0) (a x : ActorState) (asked : Cells → Option Request) (later : Cells → Option ℕ) → x.name ≡ a.name → x.denials ≡ a.denials → x.phase ≡ phase.Running → ((c : Cells) → asked c ≡ None) → Comes N a asked later None None x
comes_on N a x asked later name denials runs none = record {
  name = name;
  quiet = λ c h. denials;
  met = λ c r h. no_request (asked c) r (none c) h;
  ends = ap end_of runs;
  wants = subst (WantsAs N a asked later x) (sym runs) tt;
  codes = λ n h. absurd cc;
}

refused_as : (a : ActorState) (k : Code) (n : ℕ) → Some (code_number k) ≡ Some n → refuses a k ≡ refused a n
refused_as a k n h = let same : code_number k ≡ n = cc in subst (λ m. refuses a k ≡ refused a m) same refl

comes_refused : (N : ℕ → Bool → ℕ → Type 0) (a : ActorState) (asked : Cells → Option Request) (later : Cells → Option ℕ) (k : Code) → ((c : Cells) → asked c ≡ None) → Comes N a asked later None (Some (code_number k)) (refuses a k)
comes_refused N a asked later k none = record {
  name = refl;
  quiet = λ c h. refl;
  met = λ c r h. no_request (asked c) r (none c) h;
  ends = refl;
  wants = tt;
  codes = refused_as a k;
}

-- the same request, told otherwise
wants_as : (N : ℕ → Bool → ℕ → Type 0) (a : ActorState) (asked told : Cells → Option Request) (later : Cells → Option ℕ) (x : ActorState) (p : Phase) → ((c : Cells) → told c ≡ asked c) → WantsAs N a asked later x p → WantsAs N a told later x p
wants_as N a asked told later x (phase.Within q) same w = (w.0, w.1, w.2, λ c. same c ∙ w.3 c, w.4, w.5, w.6)
wants_as N a asked told later x phase.Running same w = tt
wants_as N a asked told later x (phase.Starting pre) same w = w
wants_as N a asked told later x (phase.MakingGate pre) same w = w
wants_as N a asked told later x (phase.Opening slot tag) same w = w
wants_as N a asked told later x (phase.Releasing slot) same w = w
wants_as N a asked told later x (phase.Entering entrance) same w = w
wants_as N a asked told later x (phase.Waiting number) same w = w
wants_as N a asked told later x (phase.OpeningFile o) same w =
    (w.0, w.1, w.2, record { path = w.3.path; file = w.3.file; bits = w.3.bits; told = λ c. same c ∙ w.3.told c; allowed = w.3.allowed; passed = w.3.passed; is = w.3.is })
wants_as N a asked told later x (phase.Ending e) same w = tt
wants_as N a asked told later x (phase.Ended e) same w = tt

comes_as : (N : ℕ → Bool → ℕ → Type 0) (a : ActorState) (asked asked2 : Cells → Option Request) (later : Cells → Option ℕ) (e : Option End) (told told2 : Option ℕ) (x : ActorState) → ((c : Cells) → asked2 c ≡ asked c) → told2 ≡ told → Comes N a asked later e told x → Comes N a asked2 later e told2 x
comes_as N a asked asked2 later e told told2 x same coded m = record {
  name = m.name;
  quiet = λ c h. m.quiet c (sym (same c) ∙ h);
  met = λ c r h. m.met c r (sym (same c) ∙ h);
  ends = m.ends;
  wants = wants_as N a asked asked2 later x x.phase same m.wants;
  codes = λ n h. m.codes n (sym coded ∙ h);
}

-- requests that are checked at their event
met_at_event : (a x : ActorState) (q : Want) (r : Request) → x ≡ record a { phase = phase.Within q } → is_checked_at_event r ≡ true → MetBy a r x
met_at_event a x q (Loads y rd s) is e = (q, is)
met_at_event a x q (Stores y value) is e = (q, is)
met_at_event a x q (Reads fd s n) is e = (q, is)
met_at_event a x q (Appends fd s bytes) is e = (q, is)
met_at_event a x q (Closes fd s) is e = (q, is)
met_at_event a x q (Opens path f b) is e = absurd cc
met_at_event a x q (Creates d) is e = absurd cc
met_at_event a x q (Makes d) is e = absurd cc
met_at_event a x q (Enters entry lent) is e = absurd cc
met_at_event a x q (Deletes tag) is e = absurd cc
met_at_event a x q (Allots tag size) is e = absurd cc
met_at_event a x q (Frees p g) is e = (q, is)

tag_event : (of : Access → Request) (p : Place) (width : ℕ) (g : Option Segment) (r : Request) → ((x : Access) → is_checked_at_event (of x) ≡ true) → in_tag of p width g ≡ Some r → is_checked_at_event r ≡ true
tag_event of p width None r h e = absurd cc
tag_event of p width (Some g) r h e = by_test _ e
  where
    by_test : (t : Bool) → (if t then Some (of (record { place = p; width = width; living = g })) else None) ≡ Some r → is_checked_at_event r ≡ true
    by_test true f = let is : of (record { place = p; width = width; living = g }) ≡ r = cc in subst (λ y. is_checked_at_event y ≡ true) is (h (record { place = p; width = width; living = g }))
    by_test false f = absurd cc

-- loads
load_bytes_comes : (N : ℕ → Bool → ℕ → Type 0) (ins : Instr) (s : Bool) (a : ActorState) (width : ℕ) (bytes : List ℕ) (t : Bool) → a.phase ≡ phase.Running
    → Comes N a (λ c. None) (λ c. None) (if t then None else Some end_.Unmapped) None (load_bytes ins s a width (if t then Some bytes else None))
load_bytes_comes N ins s a width bytes true run = comes_on N a (has_loaded ins s a width (number_of bytes)) _ _ refl refl run (λ c. refl)
load_bytes_comes N ins s a width bytes false run = comes_end N a _ _ end_.Unmapped (λ c. refl)

-- an address in a window is at a place in a slot, and an aligned one at an aligned place
place_there : (address : ℕ) (t : Bool) (p : Place) → (nat_le windows_base address && nat_lt address (windows_base + most_slots * window)) ≡ t
    → (if t then Some (record { slot = (address - windows_base) / window; offset = (address - windows_base) % window }) else None) ≡ Some p
    → (p.slot ≡ (address - windows_base) / window) × (p.offset ≡ (address - windows_base) % window) × (windows_base ≤ address) × (address < windows_base + most_slots * window)
place_there address true p e is = (cc, cc, grind (arith, nat_tests, e), grind (arith, nat_tests, e))
place_there address false p e is = absurd cc

in_window_of : (address : ℕ) (p : Place) → slot_of address ≡ Some p → (p.slot < most_slots) × (p.offset < window)
in_window_of address p e = let h = place_there address _ p refl e in (omega (arith, h.0, h.2, h.3), omega (arith, h.1))

aligned_at : (address : ℕ) (p : Place) (width : ℕ) → (width ≡ 1) ⊎ (width ≡ 2) ⊎ (width ≡ 4) → (address % width == 0) ≡ true → slot_of address ≡ Some p → p.offset % width ≡ 0
aligned_at address p width fits aligned e = by_width fits (eqb-true (address % width) 0 aligned) (place_there address _ p refl e)
  where
    by_width : (width ≡ 1) ⊎ (width ≡ 2) ⊎ (width ≡ 4) → address % width ≡ 0
        → (p.slot ≡ (address - windows_base) / window) × (p.offset ≡ (address - windows_base) % window) × (windows_base ≤ address) × (address < windows_base + most_slots * window) → p.offset % width ≡ 0
    by_width (inl is) zero_ h = let z : address % 1 ≡ 0 = subst (λ w. address % w ≡ 0) is zero_ in subst (λ w. p.offset % w ≡ 0) (sym is) (omega (arith, h.1, h.2, z))
    by_width (inr (inl is)) zero_ h = let z : address % 2 ≡ 0 = subst (λ w. address % w ≡ 0) is zero_ in subst (λ w. p.offset % w ≡ 0) (sym is) (omega (arith, h.1, h.2, z))
    by_width (inr (inr is)) zero_ h = let z : address % 4 ≡ 0 = subst (λ w. address % w ≡ 0) is zero_ in subst (λ w. p.offset % w ≡ 0) (sym is) (omega (arith, h.1, h.2, z))

placed_at : (address : ℕ) (width : ℕ) → (width ≡ 1) ⊎ (width ≡ 2) ⊎ (width ≡ 4) → (address % width == 0) ≡ true → (p : Place) → slot_of address ≡ Some p → IsPlaced p.slot p.offset width
placed_at address width fits aligned p e =
    let h = in_window_of address p e in
    (h.0, (fits, aligned_at address p width fits aligned e, h.1))

load_copy_comes : (N : ℕ → Bool → ℕ → Type 0) (ins : Instr) (s : Bool) (a : ActorState) (width : ℕ) (p : Place) (o : Option (List ℕ)) → N ins.rd s width → IsPlaced p.slot p.offset width → a.phase ≡ phase.Running
    → Comes N a (λ c. if is_some o then None else in_tag (λ x. Loads x ins.rd s) p width (slot_in c p.slot)) (λ c. None) (copy_end p.offset width o) None (load_copy ins s a width p o)
load_copy_comes N ins s a width p None k placed run = record {
  name = refl;
  quiet = λ c h. refl;
  met = λ c r h. met_at_event a _ (want.Slot p.slot (slot_want.Load p.offset width)) r refl (tag_event (λ x. Loads x ins.rd s) p width (slot_in c p.slot) r (λ x. refl) h);
  ends = refl;
  wants = (ins.rd, s, refl, λ c. refl, k, λ c. refl, placed);
  codes = λ n h. absurd cc;
}
load_copy_comes N ins s a width p (Some bytes) k placed run = load_bytes_comes N ins s a width (slice_range bytes p.offset (p.offset + width)) (holds_copy p.offset width bytes) run

load_window_comes : (N : ℕ → Bool → ℕ → Type 0) (ins : Instr) (s : Bool) (a : ActorState) (width : ℕ) (p : Option Place) → N ins.rd s width → ((x : Place) → p ≡ Some x → IsPlaced x.slot x.offset width) → a.phase ≡ phase.Running
    → Comes N a (λ c. in_window (λ x. Loads x ins.rd s) c a width p) (λ c. None) (window_end a width p) None (load_window ins s a width p)
load_window_comes N ins s a width None k placed run = comes_end N a _ _ end_.Unmapped (λ c. refl)
load_window_comes N ins s a width (Some p) k placed run = load_copy_comes N ins s a width p (copy_at a.memory.copies p.slot) k (placed p refl) run

load_comes : (N : ℕ → Bool → ℕ → Type 0) (i : Image) (ins : Instr) (s : Bool) (a : ActorState) (address width : ℕ) (t u : Bool) (r : Option MemoryRange) → N ins.rd s width → (t ≡ true → (x : Place) → slot_of address ≡ Some x → IsPlaced x.slot x.offset width) → a.phase ≡ phase.Running
    → Comes N a (λ c. if t && not u && not (is_some r) then in_window (λ x. Loads x ins.rd s) c a width (slot_of address) else None) (λ c. None)
    (if not t then Some end_.Misaligned else if u then None else if is_some r then None else window_end a width (slot_of address)) None
    (if not t then ends a end_.Misaligned else if u then has_loaded ins s a width (number_of (read_text i address width)) else load_range ins s a address width r)
load_comes N i ins s a address width false u r k placed run = comes_end N a _ _ end_.Misaligned (λ c. refl)
load_comes N i ins s a address width true true r k placed run = comes_on N a (has_loaded ins s a width (number_of (read_text i address width))) _ _ refl refl run (λ c. refl)
load_comes N i ins s a address width true false (Some r) k placed run = comes_on N a (has_loaded ins s a width (number_of (read_range r address width))) _ _ refl refl run (λ c. refl)
load_comes N i ins s a address width true false None k placed run = load_window_comes N ins s a width (slot_of address) k (placed refl) run

-- stores
stored_comes : (N : ℕ → Bool → ℕ → Type 0) (a x : ActorState) (t : Bool) → x.name ≡ a.name → x.denials ≡ a.denials → x.phase ≡ phase.Running
    → Comes N a (λ c. None) (λ c. None) (if t then None else Some end_.Unmapped) None (if t then x else ends a end_.Unmapped)
stored_comes N a x true name denials run = comes_on N a x _ _ name denials run (λ c. refl)
stored_comes N a x false name denials run = comes_end N a _ _ end_.Unmapped (λ c. refl)

store_copy_comes : (N : ℕ → Bool → ℕ → Type 0) (a : ActorState) (width value : ℕ) (p : Place) (o : Option (List ℕ)) → IsPlaced p.slot p.offset width → a.phase ≡ phase.Running
    → Comes N a (λ c. if is_some o then None else in_tag (λ x. Stores x value) p width (slot_in c p.slot)) (λ c. None) (copy_end p.offset width o) None (store_copy a width value p o)
store_copy_comes N a width value p None placed run = record {
  name = refl;
  quiet = λ c h. refl;
  met = λ c r h. met_at_event a _ (want.Slot p.slot (slot_want.Store p.offset width value)) r refl (tag_event (λ x. Stores x value) p width (slot_in c p.slot) r (λ x. refl) h);
  ends = refl;
  wants = (0, false, refl, λ c. refl, tt, λ c. refl, placed);
  codes = λ n h. absurd cc;
}
store_copy_comes N a width value p (Some bytes) placed run = stored_comes N a _ (holds_copy p.offset width bytes) refl refl run

store_window_comes : (N : ℕ → Bool → ℕ → Type 0) (a : ActorState) (width value : ℕ) (p : Option Place) → ((x : Place) → p ≡ Some x → IsPlaced x.slot x.offset width) → a.phase ≡ phase.Running
    → Comes N a (λ c. in_window (λ x. Stores x value) c a width p) (λ c. None) (window_end a width p) None (store_window a width value p)
store_window_comes N a width value None placed run = comes_end N a _ _ end_.Unmapped (λ c. refl)
store_window_comes N a width value (Some p) placed run = store_copy_comes N a width value p (copy_at a.memory.copies p.slot) (placed p refl) run

store_comes : (N : ℕ → Bool → ℕ → Type 0) (a : ActorState) (address width value : ℕ) (t u : Bool) (r : Option MemoryRange) → (t ≡ true → (x : Place) → slot_of address ≡ Some x → IsPlaced x.slot x.offset width) → a.phase ≡ phase.Running
    → Comes N a (λ c. if t && not u && not (is_some r) then in_window (λ x. Stores x value) c a width (slot_of address) else None) (λ c. None)
    (if not t then Some end_.Misaligned else if u then Some end_.TextStore else if is_some r then None else window_end a width (slot_of address)) None
    (if not t then ends a end_.Misaligned else if u then ends a end_.TextStore else store_range a address width value r)
store_comes N a address width value false u r placed run = comes_end N a _ _ end_.Misaligned (λ c. refl)
store_comes N a address width value true true r placed run = comes_end N a _ _ end_.TextStore (λ c. refl)
store_comes N a address width value true false (Some r) placed run = comes_on N a (store_range a address width value (Some r)) _ _ refl refl run (λ c. refl)
store_comes N a address width value true false None placed run = store_window_comes N a width value (slot_of address) (placed refl) run

-- ---- calls on streams

pub not_below : (m n : ℕ) → nat_le n m ≡ not (nat_lt m n)
not_below m n = grind (arith, nat_tests)

-- a number that no descriptor has, and one that a call on a stream may have
number_comes : (N : ℕ → Bool → ℕ → Type 0) (a : ActorState) (fd : ℕ) (q : StreamAsk) (v : Bool) → IsStreamRequest a fd q → (v ≡ false → fd < most_fds)
    → Comes N a (λ c. if not v then stream_request fd q (stream_in c fd) else None) (λ c. stream_refusal a fd q (stream_in c fd)) None
    (if not v then None else Some no_such)
    (if v then refuses a code.NoSuch else wants a (want.Fd fd q))
number_comes N a fd q true own few = comes_refused N a _ _ code.NoSuch (λ c. refl)
number_comes N a fd q false own few = record {
  name = refl;
  quiet = λ c h. refl;
  met = λ c r h. met_at_event a _ (want.Fd fd q) r refl (stream_event fd q (stream_in c fd) r h);
  ends = refl;
  wants = (0, false, refl, λ c. refl, own, λ c. refl, few refl);
  codes = λ n h. absurd cc;
}

-- a buffer that does not fit, and too little fuel
transfer_comes : (N : ℕ → Bool → ℕ → Type 0) (a : ActorState) (fd : ℕ) (q : StreamAsk) (t u v : Bool) → (t ≡ true → u ≡ false → IsStreamRequest a fd q) → (v ≡ false → fd < most_fds)
    → Comes N a (λ c. if t && (not u && not v) then stream_request fd q (stream_in c fd) else None) (λ c. stream_refusal a fd q (stream_in c fd)) None
    (if t then (if not u then (if not v then None else Some no_such) else Some fuel_short) else Some bad)
    (if not t then refuses a code.Bad else if u then refuses a code.FuelShort else if v then refuses a code.NoSuch else wants a (want.Fd fd q))
transfer_comes N a fd q false u v own few = comes_refused N a _ _ code.Bad (λ c. refl)
transfer_comes N a fd q true true v own few = comes_refused N a _ _ code.FuelShort (λ c. refl)
transfer_comes N a fd q true false v own few = number_comes N a fd q v (own refl refl) few

few_fds : (fd : ℕ) → nat_le most_fds fd ≡ false → fd < most_fds
few_fds fd e = grind (arith, nat_tests, e)

pub not_above : (fd : ℕ) → nat_lt fd most_fds ≡ not (nat_le most_fds fd)
not_above fd = grind (arith, nat_tests)

enough : (fuel n : ℕ) → nat_lt fuel n ≡ false → n ≤ fuel
enough fuel n e = grind (arith, nat_tests, e)

-- reads
read_told : (c : Cells) (a : ActorState) (fd n : ℕ) (t u v : Bool) → (nat_le n a.fuel ≡ not u) → (nat_lt fd most_fds ≡ not v)
    → (if t && (nat_le n a.fuel && nat_lt fd most_fds) then in_stream (λ s. Reads fd s n) (stream_in c fd) else None) ≡ (if t && (not u && not v) then in_stream (λ s. Reads fd s n) (stream_in c fd) else None)
read_told c a fd n t u v fuel few = rw (fuel, few) refl

read_coded : (a : ActorState) (fd n : ℕ) (t u v : Bool) → (nat_le n a.fuel ≡ not u) → (nat_lt fd most_fds ≡ not v)
    → read_refusal a fd n t ≡ (if t then (if not u then (if not v then None else Some no_such) else Some fuel_short) else Some bad)
read_coded a fd n t u v fuel few = rw (fuel, few) refl

read_comes : (N : ℕ → Bool → ℕ → Type 0) (a : ActorState) → Comes N a (λ c. read_of c a (a0 a) (a1 a) (a2 a)) (λ c. read_refusal_after a (a0 a) (stream_in c (a0 a))) None (read_refusal a (a0 a) (a2 a) (is_room a (a1 a) (a2 a))) (fd_read a)
read_comes N a =
    let t = fits_write a (a1 a) (a2 a) in
    comes_as N a _ _ _ None _ _ (fd_read a)
    (λ c. read_told c a (a0 a) (a2 a) t _ _ (not_below a.fuel (a2 a)) (not_above (a0 a)))
    (read_coded a (a0 a) (a2 a) t _ _ (not_below a.fuel (a2 a)) (not_above (a0 a)))
    (transfer_comes N a (a0 a) (stream_ask.Read (bits_of a (a0 a)) (a2 a)) t (nat_lt a.fuel (a2 a)) (nat_le most_fds (a0 a)) (λ fits paid. (refl, refl, enough a.fuel (a2 a) paid, fits)) (few_fds (a0 a)))

-- appends
append_told : (c : Cells) (a : ActorState) (fd n : ℕ) (bytes : List ℕ) (t u v : Bool) → (nat_le n a.fuel ≡ not u) → (nat_lt fd most_fds ≡ not v)
    → append_of c a fd n (if t then Some bytes else None) ≡ (if t && (not u && not v) then in_stream (λ s. Appends fd s bytes) (stream_in c fd) else None)
append_told c a fd n bytes false u v fuel few = refl
append_told c a fd n bytes true u v fuel few = rw (fuel, few) refl

-- its codes, in the tests of the call
append_coded : (a : ActorState) (fd n : ℕ) (bytes : List ℕ) (t u v : Bool) → (nat_le n a.fuel ≡ not u) → (nat_lt fd most_fds ≡ not v)
    → append_refusal a fd n (if t then Some bytes else None) ≡ (if t then (if not u then (if not v then None else Some no_such) else Some fuel_short) else Some bad)
append_coded a fd n bytes false u v fuel few = refl
append_coded a fd n bytes true u v fuel few = rw (fuel, few) refl

append_comes : (N : ℕ → Bool → ℕ → Type 0) (i : Image) (a : ActorState)
    → Comes N a (λ c. append_of c a (a0 a) (a2 a) (buffer_bytes i a (a1 a) (a2 a))) (λ c. append_refusal_after a (a0 a) (stream_in c (a0 a))) None (append_refusal a (a0 a) (a2 a) (buffer_bytes i a (a1 a) (a2 a))) (fd_append i a)
append_comes N i a =
    let t = fits_read i a (a1 a) (a2 a) in
    let bytes = buffer i a (a1 a) (a2 a) in
    let fits = buffer_is i a (a1 a) (a2 a) in
    comes_as N a _ _ _ None _ _ (fd_append i a)
    (λ c. ap (append_of c a (a0 a) (a2 a)) fits
    ∙ append_told c a (a0 a) (a2 a) bytes t _ _ (not_below a.fuel (a2 a)) (not_above (a0 a)))
    (ap (append_refusal a (a0 a) (a2 a)) fits
    ∙ append_coded a (a0 a) (a2 a) bytes t _ _ (not_below a.fuel (a2 a)) (not_above (a0 a)))
    (transfer_comes N a (a0 a) (stream_ask.Append (bits_of a (a0 a)) bytes) t (nat_lt a.fuel (a2 a)) (nat_le most_fds (a0 a)) (λ inside paid. (refl, enough a.fuel (a2 a) paid)) (few_fds (a0 a)))

-- closes
close_comes : (N : ℕ → Bool → ℕ → Type 0) (a : ActorState) → Comes N a (λ c. close_of c (a0 a)) (λ c. stream_close_refusal (stream_in c (a0 a))) None (number_refusal (a0 a)) (fd_close a)
close_comes N a =
    comes_as N a _ _ _ None _ _ (fd_close a)
    (λ c. ap (λ t. if t then in_stream (Closes (a0 a)) (stream_in c (a0 a)) else None) (not_above (a0 a)))
    (ap (λ t. if t then None else Some no_such) (not_above (a0 a)))
    (number_comes N a (a0 a) (stream_ask.Close (bits_of a (a0 a))) (nat_le most_fds (a0 a)) (refl, tt) (few_fds (a0 a)))

-- calls on drafts
abbrev AsDraft : (ℕ → Bool → ℕ → Type 0) → ActorState → Option ℕ → ActorState → Type 0
AsDraft N a told x = Comes N a (λ c. None) (λ c. None) None told x

drafted_comes : (N : ℕ → Bool → ℕ → Type 0) (a : ActorState) (ds : List Draft) (value : ℕ) → AsDraft N a None (answers (record a { drafts = ds }) value)
drafted_comes N a ds value = record { name = refl; quiet = λ c h. refl; met = λ c r h. absurd cc; ends = refl; wants = tt; codes = λ n h. absurd cc }

as_if : (N : ℕ → Bool → ℕ → Type 0) (a : ActorState) (m n : Option ℕ) (x y : ActorState) (t : Bool) → AsDraft N a m x → AsDraft N a n y → AsDraft N a (if t then m else n) (if t then x else y)
as_if N a m n x y true h k = h
as_if N a m n x y false h k = k

new_comes : (N : ℕ → Bool → ℕ → Type 0) (a : ActorState) (n : ℕ) (t : Bool) → nat_lt n 64 ≡ not t
    → AsDraft N a (if nat_lt n 64 then None else Some full) (if t then refuses a code.Full else answers (record a { drafts = a.drafts ++ empty_draft ∷ [] }) n)
new_comes N a n true e = rw e (comes_refused N a _ _ code.Full (λ c. refl))
new_comes N a n false e = rw e (drafted_comes N a (a.drafts ++ empty_draft ∷ []) n)

right_comes : (N : ℕ → Bool → ℕ → Type 0) (a : ActorState) (d : Draft) (t u v : Bool)
    → AsDraft N a (if not (t || (u || v)) then Some bad else if takes_tag d (a1 a) then None else Some full)
    (add_right a d (if t then Some right.Cow else if u then Some right.Read else if v then Some right.ReadWrite else None))
right_comes N a d true u v = as_if N a None (Some full) _ (refuses a code.Full) (takes_tag d (a1 a)) (drafted_comes N a _ 0) (comes_refused N a _ _ code.Full (λ c. refl))
right_comes N a d false true v = as_if N a None (Some full) _ (refuses a code.Full) (takes_tag d (a1 a)) (drafted_comes N a _ 0) (comes_refused N a _ _ code.Full (λ c. refl))
right_comes N a d false false true = as_if N a None (Some full) _ (refuses a code.Full) (takes_tag d (a1 a)) (drafted_comes N a _ 0) (comes_refused N a _ _ code.Full (λ c. refl))
right_comes N a d false false false = comes_refused N a _ _ code.Bad (λ c. refl)

right_to_comes : (N : ℕ → Bool → ℕ → Type 0) (a : ActorState) (d : Option Draft) → AsDraft N a (right_refusal (a1 a) (a2 a) d) (add_right_to a d)
right_to_comes N a None = comes_refused N a _ _ code.NoSuch (λ c. refl)
right_to_comes N a (Some d) = right_comes N a d (a2 a == 1) (a2 a == 2) (a2 a == 3)

bits_comes : (N : ℕ → Bool → ℕ → Type 0) (a : ActorState) (d : Draft) (t u v : Bool)
    → AsDraft N a (if not (t || (u || v)) then Some bad else if takes_fd d (a1 a) then None else Some full)
    (add_bits a d (if t then Some (read_append_bits true false) else if u then Some (read_append_bits false true) else if v then Some (read_append_bits true true) else None))
bits_comes N a d true u v = as_if N a None (Some full) _ (refuses a code.Full) (takes_fd d (a1 a)) (drafted_comes N a _ 0) (comes_refused N a _ _ code.Full (λ c. refl))
bits_comes N a d false true v = as_if N a None (Some full) _ (refuses a code.Full) (takes_fd d (a1 a)) (drafted_comes N a _ 0) (comes_refused N a _ _ code.Full (λ c. refl))
bits_comes N a d false false true = as_if N a None (Some full) _ (refuses a code.Full) (takes_fd d (a1 a)) (drafted_comes N a _ 0) (comes_refused N a _ _ code.Full (λ c. refl))
bits_comes N a d false false false = comes_refused N a _ _ code.Bad (λ c. refl)

bits_to_comes : (N : ℕ → Bool → ℕ → Type 0) (a : ActorState) (d : Option Draft) → AsDraft N a (bits_refusal (a1 a) (a2 a) d) (add_bits_to a d)
bits_to_comes N a None = comes_refused N a _ _ code.NoSuch (λ c. refl)
bits_to_comes N a (Some d) = bits_comes N a d (a2 a == 1) (a2 a == 2) (a2 a == 3)

entry_comes : (N : ℕ → Bool → ℕ → Type 0) (a : ActorState) (d : Draft) (p : Bool)
    → AsDraft N a (if not p then Some bad else if takes_gate d (a1 a) then None else Some full)
    (if not p then refuses a code.Bad else if takes_gate d (a1 a) then answers (with_draft a (a0 a) (with_gate d (a1 a))) 0 else refuses a code.Full)
entry_comes N a d false = comes_refused N a _ _ code.Bad (λ c. refl)
entry_comes N a d true = as_if N a None (Some full) _ (refuses a code.Full) (takes_gate d (a1 a)) (drafted_comes N a _ 0) (comes_refused N a _ _ code.Full (λ c. refl))

gate_comes : (N : ℕ → Bool → ℕ → Type 0) (i : Image) (a : ActorState) (d : Option Draft) → AsDraft N a (gate_refusal i (a1 a) d) (add_gate_to i a d)
gate_comes N i a None = comes_refused N a _ _ code.NoSuch (λ c. refl)
gate_comes N i a (Some d) = entry_comes N a d (is_procedure i (a1 a))

user_comes : (N : ℕ → Bool → ℕ → Type 0) (a : ActorState) (d : Option Draft) → AsDraft N a (user_refusal d) (set_user a d)
user_comes N a None = comes_refused N a _ _ code.NoSuch (λ c. refl)
user_comes N a (Some d) = drafted_comes N a _ 0

path_comes : (N : ℕ → Bool → ℕ → Type 0) (a : ActorState) (ds : List Draft) (t : Bool) → nat_le (a2 a) a.fuel ≡ not t
    → AsDraft N a (if nat_le (a2 a) a.fuel then None else Some fuel_short) (if t then refuses a code.FuelShort else answers (spends (record a { drafts = ds }) (a2 a)) 0)
path_comes N a ds true e = rw e (comes_refused N a _ _ code.FuelShort (λ c. refl))
path_comes N a ds false e = rw e (record { name = refl; quiet = λ c h. refl; met = λ c r h. absurd cc; ends = refl; wants = tt; codes = λ n h. absurd cc })

root_comes : (N : ℕ → Bool → ℕ → Type 0) (a : ActorState) (path : Option (List ℕ)) (d : Option Draft) → AsDraft N a (root_refusal a (a2 a) path d) (set_root a path d)
root_comes N a path None = comes_refused N a _ _ code.NoSuch (λ c. refl)
root_comes N a None (Some d) = comes_refused N a _ _ code.Bad (λ c. refl)
root_comes N a (Some path) (Some d) = path_comes N a _ (nat_lt a.fuel (a2 a)) (not_below a.fuel (a2 a))

draft_comes : (N : ℕ → Bool → ℕ → Type 0) (i : Image) (a : ActorState) (n : ℕ) → AsDraft N a (draft_refusal i a a.hart.regs n) (draft_call i a n)
draft_comes N i a n =
    let found = slice_get a.drafts (a0 a) in
    as_if N a _ _ (sc_new a) _ (n == 7) (new_comes N a (length a.drafts) (nat_le 64 (length a.drafts)) (not_over (length a.drafts)))
    (as_if N a _ _ (sc_mem_add a) _ (n == 8) (right_to_comes N a found)
    (as_if N a _ _ (sc_fd_add a) _ (n == 9) (bits_to_comes N a found)
    (as_if N a _ _ (sc_cgate_add i a) _ (n == 10) (gate_comes N i a found)
    (as_if N a _ _ (sc_user a) _ (n == 11) (user_comes N a found)
    (as_if N a _ (Some bad) (sc_root i a) (refuses a code.Bad) (n == 12)
    (subst (λ told. AsDraft N a (root_refusal a (a2 a) told found) (sc_root i a)) (sym (path_is i a (a1 a) (a2 a))) (root_comes N a (path_in i a (a1 a) (a2 a)) found)) (comes_refused N a _ _ code.Bad (λ c. refl)))))))
  where
    not_over : (n : ℕ) → nat_lt n 64 ≡ not (nat_le 64 n)
    not_over n = grind (arith, nat_tests)

-- the call that starts a child: it is checked at once
not_over_32 : (n : ℕ) → nat_lt n 32 ≡ not (nat_le 32 n)
not_over_32 n = grind (arith, nat_tests)

if_not : {X : Type 0} (t u : Bool) (x y : X) → t ≡ not u → (if not t then x else y) ≡ (if u then x else y)
if_not t true x y e = ap (λ b. if not b then x else y) e
if_not t false x y e = ap (λ b. if not b then x else y) e

refused_if : (t u v : Bool) → t ≡ not u → (not t || v) ≡ (u || v)
refused_if t true v e = ap (λ b. not b || v) e
refused_if t false v e = ap (λ b. not b || v) e

allowed_comes : (N : ℕ → Bool → ℕ → Type 0) (a : ActorState) (d : Draft) (u v : Bool) → slice_get a.drafts (a0 a) ≡ Some d → first_excess a.sheet a.made d ≡ None
    → nat_lt (length a.name) 32 ≡ not u → nat_lt a.fuel (a3 a) ≡ v
    → Comes N a (λ c. Some (Creates d)) (λ c. life_refusal c.lives) None (if u then Some deep else if v then Some fuel_short else None)
    (if u then refuses a code.Deep else if v then refuses a code.FuelShort else wants a (want.Lives lives_ask.Claim))
allowed_comes N a d u v drafted within room fuel = by_tests u v (refused_if (nat_lt (length a.name) 32) u (nat_lt a.fuel (a3 a)) room ∙ ap (λ b. u || b) fuel) room fuel
  where
    same_request : (x : Request) → Some (Creates d) ≡ Some x → Creates d ≡ x
    same_request x e = cc

    some_lacks : (y : Denial) → first_excess a.sheet a.made d ≡ Some y → (z : Type 0) → z
    some_lacks y e z = let f : None ≡ Some y = sym within ∙ e in absurd cc

    by_tests : (u v : Bool) → is_refused a (Creates d) ≡ (u || v) → nat_lt (length a.name) 32 ≡ not u → nat_lt a.fuel (a3 a) ≡ v
        → Comes N a (λ c. Some (Creates d)) (λ c. life_refusal c.lives) None (if u then Some deep else if v then Some fuel_short else None)
        (if u then refuses a code.Deep else if v then refuses a code.FuelShort else wants a (want.Lives lives_ask.Claim))
    by_tests true v is room fuel = record {
      name = refl;
      quiet = λ c h. absurd cc;
      met = λ c x h. subst (λ y. MetBy a y (refuses a code.Deep)) (same_request x h)
          (record { denied = λ y e. some_lacks y e _; done = λ e f. absurd (true≢false (sym is ∙ f)); refused = λ e f. (refl, refl) });
      ends = refl;
      wants = tt;
      codes = refused_as a code.Deep;
    }
    by_tests false true is room fuel = record {
      name = refl;
      quiet = λ c h. absurd cc;
      met = λ c x h. subst (λ y. MetBy a y (refuses a code.FuelShort)) (same_request x h)
          (record { denied = λ y e. some_lacks y e _; done = λ e f. absurd (true≢false (sym is ∙ f)); refused = λ e f. (refl, refl) });
      ends = refl;
      wants = tt;
      codes = refused_as a code.FuelShort;
    }
    by_tests false false is room fuel = record {
      name = refl;
      quiet = λ c h. absurd cc;
      met = λ c x h. subst (λ y. MetBy a y (wants a (want.Lives lives_ask.Claim))) (same_request x h)
          (record { denied = λ y e. some_lacks y e _; done = λ e f. refl; refused = λ e f. absurd (true≢false (sym f ∙ is)) });
      ends = refl;
      wants = (0, false, refl, λ c. ap (option_map (λ y. Creates y)) (sym drafted), startable room (enough a.fuel (a3 a) fuel), λ c. refl, tt);
      codes = λ n h. absurd cc;
    }
      where
        startable : nat_lt (length a.name) 32 ≡ true → a3 a ≤ a.fuel → IsStartable a
        startable s e = record { draft = d; drafted = drafted; allowed = within; shallow = s; enough = e }

        enough : (fuel n : ℕ) → nat_lt fuel n ≡ false → n ≤ fuel
        enough fuel n e = grind (arith, nat_tests, e)

checked_comes : (N : ℕ → Bool → ℕ → Type 0) (a : ActorState) (d : Draft) (o : Option Denial) → slice_get a.drafts (a0 a) ≡ Some d → first_excess a.sheet a.made d ≡ o
    → Comes N a (λ c. Some (Creates d)) (λ c. life_refusal c.lives) None (start_refusal a o) (create_checked a o)
checked_comes N a d None drafted within =
    comes_as N a _ _ _ None _ _ (create_allowed a) (λ c. refl) (if_not (nat_lt (length a.name) 32) (nat_le 32 (length a.name)) (Some deep) _ (not_over_32 (length a.name)))
    (allowed_comes N a d (nat_le 32 (length a.name)) (nat_lt a.fuel (a3 a)) drafted within (not_over_32 (length a.name)) refl)
checked_comes N a d (Some y) drafted within = record {
  name = refl;
  quiet = λ c h. absurd cc;
  met = λ c x h. subst (λ r. MetBy a r (denies a y)) (same_request x h)
      (record { denied = λ z e. subst (λ n. denies a y ≡ denied_of a (Creates d) n) (same_denial z e) refl; done = λ e f. none_lacks e _; refused = λ e f. none_lacks e _ });
  ends = refl;
  wants = tt;
  codes = λ n h. absurd cc;
}
  where
    same_request : (x : Request) → Some (Creates d) ≡ Some x → Creates d ≡ x
    same_request x e = cc

    same_denial : (z : Denial) → first_excess a.sheet a.made d ≡ Some z → y ≡ z
    same_denial z e = let f : Some y ≡ Some z = sym within ∙ e in cc

    none_lacks : first_excess a.sheet a.made d ≡ None → (z : Type 0) → z
    none_lacks e z = let f : Some y ≡ None = sym within ∙ e in absurd cc

create_tests : (N : ℕ → Bool → ℕ → Type 0) (a : ActorState) (d : Draft) (t : Bool) → slice_get a.drafts (a0 a) ≡ Some d
    → Comes N a (λ c. if t then Some (Creates d) else None) (λ c. life_refusal c.lives) None (if not t then Some bad else start_refusal a (first_excess a.sheet a.made d))
    (if not t then refuses a code.Bad else create_checked a (first_excess a.sheet a.made d))
create_tests N a d false drafted = comes_refused N a _ _ code.Bad (λ c. refl)
create_tests N a d true drafted = checked_comes N a d (first_excess a.sheet a.made d) drafted refl

create_comes : (N : ℕ → Bool → ℕ → Type 0) (i : Image) (a : ActorState) (o : Option Draft) → slice_get a.drafts (a0 a) ≡ o
    → Comes N a (λ c. create_of i (a1 a) o) (λ c. life_refusal c.lives) None (create_refusal i a (a1 a) o) (create_with i a o)
create_comes N i a None drafted = comes_refused N a _ _ code.NoSuch (λ c. refl)
create_comes N i a (Some d) drafted = create_tests N a d (is_procedure i (a1 a)) drafted

-- the call that joins one
join_tests : (N : ℕ → Bool → ℕ → Type 0) (a : ActorState) (t : Bool) → is_child a.unjoined (a0 a) ≡ t
    → Comes N a (λ c. None) (λ c. None) None (if t then None else Some no_such) (if t then wants a (want.Join (a0 a)) else refuses a code.NoSuch)
join_tests N a true e = record { name = refl; quiet = λ c h. refl; met = λ c r h. absurd cc; ends = refl; wants = (0, false, refl, λ c. refl, (e, refl), λ c. refl, tt); codes = λ n h. absurd cc }
join_tests N a false e = comes_refused N a _ _ code.NoSuch (λ c. refl)

-- ---- calls on tags

-- a call that comes to its event, with a request that is checked there or with none
comes_wanting : (N : ℕ → Bool → ℕ → Type 0) (a : ActorState) (q : Want) (later : Cells → Option ℕ) → IsWanted (N 0 false) a q → IsInCell q → ((c : Cells) → later c ≡ refusal_for c a q)
    → ((c : Cells) (r : Request) → request_for c a 0 false q ≡ Some r → MetBy a r (wants a q)) → Comes N a (λ c. request_for c a 0 false q) later None None (wants a q)
comes_wanting N a q later own inside coded met = record { name = refl; quiet = λ c h. refl; met = met; ends = refl; wants = (0, false, refl, λ c. refl, own, coded, inside); codes = λ n h. absurd cc }

pub pages_tests : (n : ℕ) → (nat_lt 0 n && nat_lt n 17) ≡ are_pages n
pages_tests n = grind (arith, nat_tests)

pages_told : (t : Bool) (n : ℕ) → (nat_lt 0 n && nat_lt n 17) ≡ t → pages_refusal n ≡ (if t then None else Some bad)
pages_told t n e = ap (λ u. if u then None else Some bad) e

new_tag_comes : (N : ℕ → Bool → ℕ → Type 0) (a : ActorState) (t : Bool) → are_pages (a0 a) ≡ t
    → Comes N a (λ c. None) (λ c. slots_refusal c.places) None (pages_refusal (a0 a)) (if t then wants a (want.Slots directory_ask.Claim) else refuses a code.Bad)
new_tag_comes N a true e =
    comes_as N a _ _ _ None _ _ _ (λ c. refl) (pages_told true (a0 a) (pages_tests (a0 a) ∙ e))
    (comes_wanting N a (want.Slots directory_ask.Claim) (λ c. slots_refusal c.places) e tt (λ c. refl) (λ c r h. absurd cc))
new_tag_comes N a false e =
    comes_as N a _ _ _ None _ _ _ (λ c. refl) (pages_told false (a0 a) (pages_tests (a0 a) ∙ e))
    (comes_refused N a (λ c. None) (λ c. slots_refusal c.places) code.Bad (λ c. refl))

-- a request that is checked at once, of an actor that is denied, and of one that comes to its event
same_some : {X : Type 0} (x y : X) → Some x ≡ Some y → x ≡ y
same_some x y e = cc

met_now : (r : Request) {a x : ActorState} → is_checked_at_event r ≡ false → IsCheckedNow a r x → MetBy a r x
met_now (Loads y rd s) now h = absurd cc
met_now (Stores y value) now h = absurd cc
met_now (Reads fd s n) now h = absurd cc
met_now (Appends fd s bytes) now h = absurd cc
met_now (Closes fd s) now h = absurd cc
met_now (Opens path f b) now h = h
met_now (Creates d) now h = h
met_now (Makes d) now h = h
met_now (Enters entry lent) now h = h
met_now (Deletes tag) now h = h
met_now (Allots tag size) now h = h
met_now (Frees p g) now h = absurd cc

denied_now : (N : ℕ → Bool → ℕ → Type 0) (a : ActorState) (r : Request) (d : Denial) (later : Cells → Option ℕ) → is_checked_at_event r ≡ false → lacks a r ≡ Some d → denied_of a r d ≡ denies a d
    → Comes N a (λ c. Some r) later None None (denies a d)
denied_now N a r d later now lack is = record {
  name = refl;
  quiet = λ c h. absurd cc;
  met = λ c x h. subst (λ y. MetBy a y (denies a d)) (same_some r x h) (met_now r now (record {
    denied = λ y e. sym (subst (λ z. denied_of a r z ≡ denies a d) (same_some d y (sym lack ∙ e)) is);
    done = λ e f. let g : Some d ≡ None = sym lack ∙ e in absurd cc;
    refused = λ e f. let g : Some d ≡ None = sym lack ∙ e in absurd cc;
  }));
  ends = refl;
  wants = tt;
  codes = λ n h. absurd cc;
}

comes_now : (N : ℕ → Bool → ℕ → Type 0) (a : ActorState) (r : Request) (q : Want) (later : Cells → Option ℕ) → is_checked_at_event r ≡ false → lacks a r ≡ None → is_refused a r ≡ false → phase_for a r ≡ phase.Within q
    → (wants a q ≡ record a { phase = phase_for a r } → DoneNow a r (wants a q)) → IsWanted (N 0 false) a q → IsInCell q → ((c : Cells) → Some r ≡ request_for c a 0 false q) → ((c : Cells) → later c ≡ refusal_for c a q) → Comes N a (λ c. Some r) later None None (wants a q)
comes_now N a r q later now lack goes is comes own inside asked coded = record {
  name = refl;
  quiet = λ c h. absurd cc;
  met = λ c x h. subst (λ y. MetBy a y (wants a q)) (same_some r x h) (met_now r now (record {
    denied = λ y e. let g : None ≡ Some y = sym lack ∙ e in absurd cc;
    done = λ e f. comes (ap (λ z. record a { phase = z }) (sym is));
    refused = λ e f. absurd (true≢false (sym f ∙ goes));
  }));
  ends = refl;
  wants = (0, false, refl, asked, own, coded, inside);
  codes = λ n h. absurd cc;
}

delete_comes : (N : ℕ → Bool → ℕ → Type 0) (a : ActorState) (t : Bool) → has a.made.tags (a0 a) ≡ t
    → Comes N a (λ c. Some (Deletes (a0 a))) (λ c. close_refusal (a0 a) (slot_in c (slot_held a (a0 a)))) None None
    (if t then wants a (want.Slot (slot_held a (a0 a)) (slot_want.Close (a0 a))) else denies a (denial.NotMaker (a0 a)))
delete_comes N a true e =
    comes_now N a (Deletes (a0 a)) _ _ refl (ap (λ u. if u then None else Some (denial.NotMaker (a0 a))) e) refl refl (λ h. h) (e, refl) tt (λ c. refl) (λ c. refl)
delete_comes N a false e = denied_now N a (Deletes (a0 a)) (denial.NotMaker (a0 a)) _ refl (ap (λ u. if u then None else Some (denial.NotMaker (a0 a))) e) refl

allot_comes : (N : ℕ → Bool → ℕ → Type 0) (a : ActorState) (t u : Bool) → (a1 a == 0) ≡ t → may_use a (a0 a) right.ReadWrite ≡ u
    → Comes N a (λ c. if t then None else Some (Allots (a0 a) (a1 a))) (λ c. place_refusal (a0 a) (a1 a) (slot_in c (slot_held a (a0 a)))) None (if t then Some bad else None)
    (if t then refuses a code.Bad else if u then wants a (want.Slot (slot_held a (a0 a)) (slot_want.Smalloc (a0 a) (a1 a))) else denies a (denial.Tag (a0 a) right.ReadWrite))
allot_comes N a true u e f = comes_refused N a _ _ code.Bad (λ c. refl)
allot_comes N a false true e f =
    comes_now N a (Allots (a0 a) (a1 a)) _ _ refl (ap (λ x. if x then None else Some (denial.Tag (a0 a) right.ReadWrite)) f) refl refl (λ h. h) (f, refl, e) tt (λ c. refl) (λ c. refl)
allot_comes N a false false e f =
    denied_now N a (Allots (a0 a) (a1 a)) (denial.Tag (a0 a) right.ReadWrite) _ refl (ap (λ x. if x then None else Some (denial.Tag (a0 a) right.ReadWrite)) f) refl

freed_event : (p : Place) (g : Option Segment) (r : Request) → option_map (Frees p) g ≡ Some r → is_checked_at_event r ≡ true
freed_event p None r e = absurd cc
freed_event p (Some g) r e = subst (λ y. is_checked_at_event y ≡ true) (same_some (Frees p g) r e) refl

free_comes : (N : ℕ → Bool → ℕ → Type 0) (a : ActorState) (p : Option Place) → ((x : Place) → p ≡ Some x → (x.slot < most_slots) × (x.offset < window)) → Comes N a (λ c. free_of c p) (λ c. free_refusal c a p) None (address_refusal p) (free_at a p)
free_comes N a None inside = comes_refused N a _ _ code.Bad (λ c. refl)
free_comes N a (Some p) inside =
    comes_wanting N a (want.Slot p.slot (slot_want.Sfree p.offset)) (λ c. block_refusal a p.offset (slot_in c p.slot)) tt (inside p refl) (λ c. refl)
    (λ c r h. met_at_event a _ (want.Slot p.slot (slot_want.Sfree p.offset)) r refl (freed_event p (slot_in c p.slot) r h))

-- ---- the call that opens a file: it is checked at once

kinds_suit : (k : StreamKind) (b : FdBits) → fits_kind k b ≡ suits k b
kinds_suit kind.Source b = refl
kinds_suit kind.Append b = refl

-- a mode is read as the step reads it
opens_so : (user : ℕ) (f : FileEntry) (b : FdBits) → may_be_opened user f b ≡ may_open user f b
opens_so user f b = ap (λ t. (user == 0) || t) (by_owner (user == f.owner) b.read b.append)
  where
    eighths : (n : ℕ) → n / 8 ≡ n / 4 / 2
    eighths n = grind (arith)

    by_bits : (r a r_held a_held : Bool) → ((not r || r_held) && (not a || a_held)) ≡ ((if r then r_held else true) && (if a then a_held else true))
    by_bits true true r_held a_held = refl
    by_bits true false r_held a_held = refl
    by_bits false true r_held a_held = refl
    by_bits false false r_held a_held = refl

    by_owner : (t r a : Bool) → ((not r || (if t then f.mode % 2 == 1 else f.mode / 4 % 2 == 1)) && (not a || (if t then f.mode / 2 % 2 == 1 else f.mode / 8 % 2 == 1)))
        ≡ bits_within (record { read = r; append = a }) (bits_from (if t then f.mode else f.mode / 4))
    by_owner true r a = by_bits r a (f.mode % 2 == 1) (f.mode / 2 % 2 == 1)
    by_owner false r a = by_bits r a (f.mode / 4 % 2 == 1) (f.mode / 8 % 2 == 1) ∙ ap (λ n. (if r then f.mode / 4 % 2 == 1 else true) && (if a then n % 2 == 1 else true)) (eighths f.mode)

file_tests : (N : ℕ → Bool → ℕ → Type 0) (a : ActorState) (path : List ℕ) (f : FileEntry) (b : FdBits) (t u : Bool) → a1 a ≤ a.fuel → may_be_opened a.sheet.user f b ≡ t → fits_kind f.kind b ≡ u
    → Comes N a (λ c. Some (Opens path f b)) (λ c. None) None (if t && not u then Some bad else None)
    (if not t then denies a (denial.File path) else if not u then refuses a code.Bad else record a { phase = phase.OpeningFile (opened_as path f b) })
file_tests N a path f b false u paid may fits = denied_now N a (Opens path f b) (denial.File path) _ refl (ap (λ v. if v then None else Some (denial.File path)) may) refl
file_tests N a path f b true false paid may fits =
    let none : lacks a (Opens path f b) ≡ None = ap (λ v. if v then None else Some (denial.File path)) may in
    let is : is_refused a (Opens path f b) ≡ true = ap not fits in
    record {
      name = refl;
      quiet = λ c h. absurd cc;
      met = λ c r h. subst (λ y. MetBy a y (refuses a code.Bad)) (same_some (Opens path f b) r h)
          (record { denied = λ y e. let g : None ≡ Some y = sym none ∙ e in absurd cc; done = λ e g. absurd (true≢false (sym is ∙ g)); refused = λ e g. (refl, refl) });
      ends = refl;
      wants = tt;
      codes = refused_as a code.Bad;
    }
file_tests N a path f b true true paid may fits =
    let none : lacks a (Opens path f b) ≡ None = ap (λ v. if v then None else Some (denial.File path)) may in
    let is : is_refused a (Opens path f b) ≡ false = ap not fits in
    record {
      name = refl;
      quiet = λ c h. absurd cc;
      met = λ c r h. subst (λ y. MetBy a y (record a { phase = phase.OpeningFile (opened_as path f b) })) (same_some (Opens path f b) r h)
          (record { denied = λ y e. let g : None ≡ Some y = sym none ∙ e in absurd cc; done = λ e g. refl; refused = λ e g. absurd (true≢false (sym g ∙ is)) });
      ends = refl;
      wants = (refl, refl, paid, record { path = path; file = f; bits = b; told = λ c. refl; allowed = none; passed = is; is = refl });
      codes = λ n h. absurd cc;
    }

file_comes : (N : ℕ → Bool → ℕ → Type 0) (a : ActorState) (path : List ℕ) (b : FdBits) (o : Option FileEntry) → a1 a ≤ a.fuel
    → Comes N a (λ c. option_map (λ f. Opens path f b) o) (λ c. None) None (file_refusal a b o) (open_file a path b o)
file_comes N a path b None paid = comes_refused N a _ _ code.NoSuch (λ c. refl)
file_comes N a path b (Some f) paid =
    subst (λ v. Comes N a (λ c. Some (Opens path f b)) (λ c. None) None (file_refusal a b (Some f)) (if not (may_open a.sheet.user f b) then denies a (denial.File path) else if not v then refuses a code.Bad else record a { phase = phase.OpeningFile (opened_as path f b) }))
    (kinds_suit f.kind b)
    (subst (λ t. Comes N a (λ c. Some (Opens path f b)) (λ c. None) None (file_refusal a b (Some f)) (if not t then denies a (denial.File path) else if not (fits_kind f.kind b) then refuses a code.Bad else record a { phase = phase.OpeningFile (opened_as path f b) }))
    (opens_so a.sheet.user f b) (file_tests N a path f b _ _ paid refl refl))

fuel_comes : (N : ℕ → Bool → ℕ → Type 0) (i : Image) (a : ActorState) (path : List ℕ) (b : FdBits) (t : Bool) → nat_lt a.fuel (a1 a) ≡ t → nat_le (a1 a) a.fuel ≡ not t
    → Comes N a (λ c. open_of i a (a1 a) (Some b) (Some path)) (λ c. None) None (open_refusal i a (a1 a) (Some b) (Some path)) (if t then refuses a code.FuelShort else open_file a path b (file_at i path))
fuel_comes N i a path b true short e =
    comes_as N a _ _ _ None _ _ (refuses a code.FuelShort) (λ c. ap (λ v. if v then option_map (λ f. Opens path f b) (file_of i path) else None) e) (ap (λ v. if v then file_refusal a b (file_of i path) else Some fuel_short) e)
    (comes_refused N a (λ c. None) _ code.FuelShort (λ c. refl))
fuel_comes N i a path b false short e =
    comes_as N a _ _ _ None _ _ (open_file a path b (file_at i path)) (λ c. ap (λ v. if v then option_map (λ f. Opens path f b) (file_of i path) else None) e) (ap (λ v. if v then file_refusal a b (file_of i path) else Some fuel_short) e)
    (file_comes N a path b (file_at i path) (enough a.fuel (a1 a) short))

path_opens : (N : ℕ → Bool → ℕ → Type 0) (i : Image) (a : ActorState) (b : Option FdBits) (path : Option (List ℕ)) → Comes N a (λ c. open_of i a (a1 a) b path) (λ c. None) None (open_refusal i a (a1 a) b path) (open_path i a b path)
path_opens N i a None path = comes_refused N a _ _ code.Bad (λ c. refl)
path_opens N i a (Some b) None = comes_refused N a _ _ code.Bad (λ c. refl)
path_opens N i a (Some b) (Some path) = fuel_comes N i a path b _ refl (not_below a.fuel (a1 a))

open_comes : (N : ℕ → Bool → ℕ → Type 0) (i : Image) (a : ActorState)
    → Comes N a (λ c. open_of i a (a1 a) (bits_to_open (a2 a)) (path_at i a (a0 a) (a1 a))) (λ c. None) None (open_refusal i a (a1 a) (bits_to_open (a2 a)) (path_at i a (a0 a) (a1 a))) (file_open i a)
open_comes N i a =
    subst (λ path. Comes N a (λ c. open_of i a (a1 a) (bits_to_open (a2 a)) path) (λ c. None) None (open_refusal i a (a1 a) (bits_to_open (a2 a)) path) (file_open i a)) (sym (path_is i a (a0 a) (a1 a)))
    (path_opens N i a (mode_asked (a2 a)) (path_in i a (a0 a) (a1 a)))

-- ---- the call that makes a gate: it is checked at once

two_kinds : (n : ℕ) → ((n == 0) || (n == 1)) ≡ nat_le n 1
two_kinds n = grind (arith, nat_tests)

pub suits_so : (i : Image) (a : ActorState) (d : Draft) → suits_gate i (a1 a) (a4 a) d ≡ may_be_gate i a d
suits_so i a d = ap (λ t. is_procedure i (a1 a) && (t && (is_none d.user && is_none d.root))) (two_kinds (a4 a))

pub unset : {X : Type 0} (o : Option X) → is_none o ≡ true → o ≡ None
unset None e = refl
unset (Some x) e = absurd cc

-- a gate is of its draft
pub gate_of_draft : (a : ActorState) (d : Draft) (m : PrivateMemory) → slice_get a.drafts (a0 a) ≡ Some d → MayGrant a → IsGateOf a d (new_gate a d m)
gate_of_draft a d m drafted g =
    let same : g.draft ≡ d = same_some g.draft d (sym g.drafted ∙ drafted) in
    record {
      id = refl;
      entry = refl;
      sheet = refl;
      within = sheet_within a.sheet a.made d (subst (λ x. first_excess a.sheet a.made x ≡ None) same g.allowed);
      asked = is_drafted a.sheet a.made d (subst (λ x. first_excess a.sheet a.made x ≡ None) same g.allowed);
      user = ap (λ o. unwrap_or o a.sheet.user) (subst (λ x. x.user ≡ None) same g.user);
      root = ap (λ o. unwrap_or o a.sheet.root) (subst (λ x. x.root ≡ None) same g.root);
      argument = refl;
      fuel = refl;
      kind = refl;
    }

made_comes : (N : ℕ → Bool → ℕ → Type 0) (a : ActorState) (d : Draft) (p : Preparation) (gs : List CopyGrant) → slice_get a.drafts (a0 a) ≡ Some d → p.left ≡ gs → MayGrant a → length p.left ≤ length (copies_asked a)
    → lacks a (Makes d) ≡ None → Comes N a (λ c. Some (Makes d)) (λ c. None) None None (makes_or_waits a d p gs)
made_comes N a d p [] drafted left may few none = record {
  name = refl;
  quiet = λ c h. absurd cc;
  met = λ c r h. subst (λ y. MetBy a y (has_gate a (new_gate a d p.memory))) (same_some (Makes d) r h)
      (record { denied = λ y e. let f : None ≡ Some y = sym none ∙ e in absurd cc; done = λ e f. inl (new_gate a d p.memory, gate_of_draft a d p.memory drafted may, refl); refused = λ e f. absurd cc });
  ends = refl;
  wants = tt;
  codes = λ n h. absurd cc;
}
made_comes N a d p (x ∷ xs) drafted left may few none = record {
  name = refl;
  quiet = λ c h. absurd cc;
  met = λ c r h. subst (λ y. MetBy a y (record a { phase = phase.MakingGate p })) (same_some (Makes d) r h)
      (record { denied = λ y e. let f : None ≡ Some y = sym none ∙ e in absurd cc; done = λ e f. inr (p, refl); refused = λ e f. absurd cc });
  ends = refl;
  wants = (refl, record { may = may; few = few; some = let more : length p.left ≡ suc (length xs) = ap length left in omega (arith, more) });
  codes = λ n h. absurd cc;
}

gate_checked : (N : ℕ → Bool → ℕ → Type 0) (i : Image) (a : ActorState) (d : Draft) (o : Option Denial) → slice_get a.drafts (a0 a) ≡ Some d → first_excess a.sheet a.made d ≡ o → d.user ≡ None → d.root ≡ None
    → Comes N a (λ c. Some (Makes d)) (λ c. None) None None (make_checked i a d o)
gate_checked N i a d (Some y) drafted excess user root = denied_now N a (Makes d) y _ refl excess refl
gate_checked N i a d None drafted excess user root =
    let gs = copy_grants (sheet_of_draft a.sheet a.made d).tags in
    let fewer = prepared_left a.sheet a.made a.memory.copies (pristine i) gs in
    let asked : length (copies_asked a) ≡ length gs = ap (λ o. length (copy_grants (sheet_of_draft a.sheet a.made (unwrap_or o empty_draft)).tags)) drafted in
    let p = prepare_copies a.sheet a.made a.memory.copies (pristine i) gs in
    made_comes N a d p p.left drafted refl (record { draft = d; drafted = drafted; allowed = excess; user = user; root = root }) (omega (arith, fewer, asked)) excess

gate_tests : (N : ℕ → Bool → ℕ → Type 0) (i : Image) (a : ActorState) (d : Draft) (p k u r : Bool) → slice_get a.drafts (a0 a) ≡ Some d → is_none d.user ≡ u → is_none d.root ≡ r
    → Comes N a (λ c. if p && (k && (u && r)) then Some (Makes d) else None) (λ c. None) None (if p && (k && (u && r)) then None else Some bad)
    (if not (p && (k && (u && r))) then refuses a code.Bad else make_checked i a d (first_excess a.sheet a.made d))
gate_tests N i a d false k u r drafted user root = comes_refused N a _ _ code.Bad (λ c. refl)
gate_tests N i a d true false u r drafted user root = comes_refused N a _ _ code.Bad (λ c. refl)
gate_tests N i a d true true false r drafted user root = comes_refused N a _ _ code.Bad (λ c. refl)
gate_tests N i a d true true true false drafted user root = comes_refused N a _ _ code.Bad (λ c. refl)
gate_tests N i a d true true true true drafted user root = gate_checked N i a d (first_excess a.sheet a.made d) drafted refl (unset d.user user) (unset d.root root)

make_comes : (N : ℕ → Bool → ℕ → Type 0) (i : Image) (a : ActorState) (o : Option Draft) → slice_get a.drafts (a0 a) ≡ o
    → Comes N a (λ c. make_of i (a1 a) (a4 a) o) (λ c. None) None (make_refusal i (a1 a) (a4 a) o) (make_with i a o)
make_comes N i a None drafted = comes_refused N a _ _ code.NoSuch (λ c. refl)
make_comes N i a (Some d) drafted =
    subst (λ t. Comes N a (λ c. if t then Some (Makes d) else None) (λ c. None) None (if t then None else Some bad) (make_with i a (Some d))) (sym (suits_so i a d))
    (gate_tests N i a d (is_procedure i (a1 a)) (nat_le (a4 a) 1) (is_none d.user) (is_none d.root) drafted refl refl)

-- ---- the call that enters a gate: it is checked at once
-- one that is refused for a cause behind its denial
entry_refused : (N : ℕ → Bool → ℕ → Type 0) (a : ActorState) (entry : ℕ) (lent : Option Draft) (k : Code) → lacks a (Enters entry lent) ≡ None → is_refused a (Enters entry lent) ≡ true
    → Comes N a (λ c. Some (Enters entry lent)) (λ c. None) None (Some (code_number k)) (refuses a k)
entry_refused N a entry lent k none is = record {
  name = refl;
  quiet = λ c h. absurd cc;
  met = λ c r h. subst (λ y. MetBy a y (refuses a k)) (same_some (Enters entry lent) r h)
      (record { denied = λ y e. let g : None ≡ Some y = sym none ∙ e in absurd cc; done = λ e g. absurd (true≢false (sym is ∙ g)); refused = λ e g. (refl, refl) });
  ends = refl;
  wants = tt;
  codes = refused_as a k;
}

-- a gate that an actor holds at the entry, and what it may lend to its run
record Entry (a : ActorState) (g : Gate) (lent : Option Draft) : Type 0 where
  held : gate_held a (a0 a) ≡ Some g
  asked : lent_asked a.drafts (a2 a) ≡ Some lent
  lendable : may_lend lent ≡ true
  allowed : excess_lent a lent ≡ None

entry_tests : (N : ℕ → Bool → ℕ → Type 0) (a : ActorState) (g : Gate) (lent : Option Draft) (t u : Bool) → Entry a g lent → nat_lt (length a.name) 32 ≡ not t → nat_lt a.fuel g.fuel ≡ u
    → Comes N a (λ c. Some (Enters (a0 a) lent)) (λ c. None) None (if t then Some deep else if u then Some fuel_short else None)
    (if t then refuses a code.Deep else if u then refuses a code.FuelShort else record a { phase = phase.Entering (entrance_of a g lent) })
entry_tests N a g lent t u h room short = by_tests t u room short (ap (enter_refused a) h.held ∙ refused_so t u room short)
  where
    none : lacks a (Enters (a0 a) lent) ≡ None
    none = ap (enter_lacks a (a0 a) lent) h.held ∙ h.allowed

    refused_so : (t u : Bool) → nat_lt (length a.name) 32 ≡ not t → nat_lt a.fuel g.fuel ≡ u → enter_refused a (Some g) ≡ (t || u)
    refused_so t u room short = refused_if (nat_lt (length a.name) 32) t (nat_lt a.fuel g.fuel) room ∙ ap (λ v. t || v) short

    by_tests : (t u : Bool) → nat_lt (length a.name) 32 ≡ not t → nat_lt a.fuel g.fuel ≡ u → is_refused a (Enters (a0 a) lent) ≡ (t || u)
        → Comes N a (λ c. Some (Enters (a0 a) lent)) (λ c. None) None (if t then Some deep else if u then Some fuel_short else None)
        (if t then refuses a code.Deep else if u then refuses a code.FuelShort else record a { phase = phase.Entering (entrance_of a g lent) })
    by_tests true u room short is = entry_refused N a (a0 a) lent code.Deep none is
    by_tests false true room short is = entry_refused N a (a0 a) lent code.FuelShort none is
    by_tests false false room short is = record {
      name = refl;
      quiet = λ c e. absurd cc;
      met = λ c r e. subst (λ y. MetBy a y (record a { phase = phase.Entering (entrance_of a g lent) })) (same_some (Enters (a0 a) lent) r e)
          (record { denied = λ y f. let x : None ≡ Some y = sym none ∙ f in absurd cc; done = λ e f. (entrance_of a g lent, h.held, refl, refl); refused = λ e f. absurd (true≢false (sym f ∙ is)) });
      ends = refl;
      wants = (refl, record { held = h.held; lent = lent; asked = h.asked; lendable = h.lendable; allowed = h.allowed; sheet = refl; shallow = room; enough = enough a.fuel g.fuel short });
      codes = λ n e. absurd cc;
    }

entry_coded : (a : ActorState) (g : Gate) (t : Bool) → nat_lt (length a.name) 32 ≡ not t
    → entry_refusal a g None ≡ (if t then Some deep else if nat_lt a.fuel g.fuel then Some fuel_short else None)
entry_coded a g t room = if_not (nat_lt (length a.name) 32) t (Some deep) _ room

entry_checked : (N : ℕ → Bool → ℕ → Type 0) (a : ActorState) (g : Gate) (lent : Option Draft) (o : Option Denial) → gate_held a (a0 a) ≡ Some g → lent_asked a.drafts (a2 a) ≡ Some lent → may_lend lent ≡ true → excess_lent a lent ≡ o
    → Comes N a (λ c. Some (Enters (a0 a) lent)) (λ c. None) None (entry_refusal a g o) (enter_checked a g lent o)
entry_checked N a g lent (Some y) held asked may excess = denied_now N a (Enters (a0 a) lent) y _ refl (ap (enter_lacks a (a0 a) lent) held ∙ excess) refl
entry_checked N a g lent None held asked may excess =
    comes_as N a _ _ _ None _ _ (enter_allowed a g lent) (λ c. refl) (entry_coded a g (nat_le 32 (length a.name)) (not_over_32 (length a.name)))
    (entry_tests N a g lent (nat_le 32 (length a.name)) (nat_lt a.fuel g.fuel) (record { held = held; asked = asked; lendable = may; allowed = excess }) (not_over_32 (length a.name)) refl)

lending_comes : (N : ℕ → Bool → ℕ → Type 0) (a : ActorState) (g : Gate) (lent : Option (Option Draft)) → gate_held a (a0 a) ≡ Some g → lent_asked a.drafts (a2 a) ≡ lent
    → Comes N a (λ c. lending_of (a0 a) lent) (λ c. None) None (lending_refusal a g lent) (enter_lending a g lent)
lending_comes N a g None held asked = comes_refused N a _ _ code.NoSuch (λ c. refl)
lending_comes N a g (Some lent) held asked = by_test (may_lend lent) refl
  where
    by_test : (t : Bool) → may_lend lent ≡ t
        → Comes N a (λ c. if t then Some (Enters (a0 a) lent) else None) (λ c. None) None (if not t then Some bad else entry_refusal a g (excess_lent a lent)) (if not t then refuses a code.Bad else enter_checked a g lent (excess_lent a lent))
    by_test false may = comes_refused N a _ _ code.Bad (λ c. refl)
    by_test true may = entry_checked N a g lent (excess_lent a lent) held asked may refl

enter_comes : (N : ℕ → Bool → ℕ → Type 0) (a : ActorState) (g : Option Gate) → gate_held a (a0 a) ≡ g
    → Comes N a (λ c. enter_of (a0 a) g (lent_of a.drafts (a2 a))) (λ c. None) None (enter_refusal a g (lent_of a.drafts (a2 a))) (enter_held a g)
enter_comes N a None held = denied_now N a (Enters (a0 a) None) (denial.Gate (a0 a)) _ refl (ap (enter_lacks a (a0 a) None) held) refl
enter_comes N a (Some g) held = lending_comes N a g (lent_asked a.drafts (a2 a)) held refl

-- ---- a call by its number

abbrev CallComes : (ℕ → Bool → ℕ → Type 0) → Image → ActorState → ℕ → Type 0
CallComes N i a n = Comes N a (λ c. call_request i c a a.hart.regs n) (λ c. call_refusal_after c a a.hart.regs n) (if n == 0 then Some (end_.Exited (a0 a)) else None) (call_refusal i a a.hart.regs n) (serves i a n)

call_comes : (N : ℕ → Bool → ℕ → Type 0) (i : Image) (a : ActorState) (n : ℕ) → CallComes N i a n
unfolding serves
call_comes N i a n = by_0 (n == 0) refl
  where
    at : (k : ℕ) → (n == k) ≡ true → CallComes N i a k → CallComes N i a n
    at k e h = subst (CallComes N i a) (sym (eqb-true n k e)) h

    by_18 : (t : Bool) → (n == 18) ≡ t → (n == 0) ≡ false → (n == 1) ≡ false → (n == 2) ≡ false → (n == 3) ≡ false → (n == 4) ≡ false → (n == 5) ≡ false → (n == 6) ≡ false → (n == 13) ≡ false → (n == 14) ≡ false → (n == 15) ≡ false → (n == 16) ≡ false → (n == 17) ≡ false → CallComes N i a n
    by_18 true e e0 e1 e2 e3 e4 e5 e6 e13 e14 e15 e16 e17 = at 18 e (open_comes N i a)
    by_18 false e e0 e1 e2 e3 e4 e5 e6 e13 e14 e15 e16 e17 = rw (e0, e1, e2, e3, e4, e5, e6, e13, e14, e15, e16, e17, e) (draft_comes N i a n)

    by_17 : (t : Bool) → (n == 17) ≡ t → (n == 0) ≡ false → (n == 1) ≡ false → (n == 2) ≡ false → (n == 3) ≡ false → (n == 4) ≡ false → (n == 5) ≡ false → (n == 6) ≡ false → (n == 13) ≡ false → (n == 14) ≡ false → (n == 15) ≡ false → (n == 16) ≡ false → CallComes N i a n
    by_17 true e e0 e1 e2 e3 e4 e5 e6 e13 e14 e15 e16 = at 17 e (close_comes N a)
    by_17 false e e0 e1 e2 e3 e4 e5 e6 e13 e14 e15 e16 = by_18 (n == 18) refl e0 e1 e2 e3 e4 e5 e6 e13 e14 e15 e16 e

    by_16 : (t : Bool) → (n == 16) ≡ t → (n == 0) ≡ false → (n == 1) ≡ false → (n == 2) ≡ false → (n == 3) ≡ false → (n == 4) ≡ false → (n == 5) ≡ false → (n == 6) ≡ false → (n == 13) ≡ false → (n == 14) ≡ false → (n == 15) ≡ false → CallComes N i a n
    by_16 true e e0 e1 e2 e3 e4 e5 e6 e13 e14 e15 = at 16 e (append_comes N i a)
    by_16 false e e0 e1 e2 e3 e4 e5 e6 e13 e14 e15 = by_17 (n == 17) refl e0 e1 e2 e3 e4 e5 e6 e13 e14 e15 e

    by_15 : (t : Bool) → (n == 15) ≡ t → (n == 0) ≡ false → (n == 1) ≡ false → (n == 2) ≡ false → (n == 3) ≡ false → (n == 4) ≡ false → (n == 5) ≡ false → (n == 6) ≡ false → (n == 13) ≡ false → (n == 14) ≡ false → CallComes N i a n
    by_15 true e e0 e1 e2 e3 e4 e5 e6 e13 e14 = at 15 e (read_comes N a)
    by_15 false e e0 e1 e2 e3 e4 e5 e6 e13 e14 = by_16 (n == 16) refl e0 e1 e2 e3 e4 e5 e6 e13 e14 e

    by_14 : (t : Bool) → (n == 14) ≡ t → (n == 0) ≡ false → (n == 1) ≡ false → (n == 2) ≡ false → (n == 3) ≡ false → (n == 4) ≡ false → (n == 5) ≡ false → (n == 6) ≡ false → (n == 13) ≡ false → CallComes N i a n
    by_14 true e e0 e1 e2 e3 e4 e5 e6 e13 = at 14 e (enter_comes N a (gate_held a (a0 a)) refl)
    by_14 false e e0 e1 e2 e3 e4 e5 e6 e13 = by_15 (n == 15) refl e0 e1 e2 e3 e4 e5 e6 e13 e

    by_13 : (t : Bool) → (n == 13) ≡ t → (n == 0) ≡ false → (n == 1) ≡ false → (n == 2) ≡ false → (n == 3) ≡ false → (n == 4) ≡ false → (n == 5) ≡ false → (n == 6) ≡ false → CallComes N i a n
    by_13 true e e0 e1 e2 e3 e4 e5 e6 = at 13 e (make_comes N i a (slice_get a.drafts (a0 a)) refl)
    by_13 false e e0 e1 e2 e3 e4 e5 e6 = by_14 (n == 14) refl e0 e1 e2 e3 e4 e5 e6 e

    by_6 : (t : Bool) → (n == 6) ≡ t → (n == 0) ≡ false → (n == 1) ≡ false → (n == 2) ≡ false → (n == 3) ≡ false → (n == 4) ≡ false → (n == 5) ≡ false → CallComes N i a n
    by_6 true e e0 e1 e2 e3 e4 e5 = at 6 e (free_comes N a (slot_of (a0 a)) (in_window_of (a0 a)))
    by_6 false e e0 e1 e2 e3 e4 e5 = by_13 (n == 13) refl e0 e1 e2 e3 e4 e5 e

    by_5 : (t : Bool) → (n == 5) ≡ t → (n == 0) ≡ false → (n == 1) ≡ false → (n == 2) ≡ false → (n == 3) ≡ false → (n == 4) ≡ false → CallComes N i a n
    by_5 true e e0 e1 e2 e3 e4 = at 5 e (allot_comes N a (a1 a == 0) (may_use a (a0 a) right.ReadWrite) refl refl)
    by_5 false e e0 e1 e2 e3 e4 = by_6 (n == 6) refl e0 e1 e2 e3 e4 e

    by_4 : (t : Bool) → (n == 4) ≡ t → (n == 0) ≡ false → (n == 1) ≡ false → (n == 2) ≡ false → (n == 3) ≡ false → CallComes N i a n
    by_4 true e e0 e1 e2 e3 = at 4 e (delete_comes N a (has a.made.tags (a0 a)) refl)
    by_4 false e e0 e1 e2 e3 = by_5 (n == 5) refl e0 e1 e2 e3 e

    by_3 : (t : Bool) → (n == 3) ≡ t → (n == 0) ≡ false → (n == 1) ≡ false → (n == 2) ≡ false → CallComes N i a n
    by_3 true e e0 e1 e2 = at 3 e (new_tag_comes N a (are_pages (a0 a)) refl)
    by_3 false e e0 e1 e2 = by_4 (n == 4) refl e0 e1 e2 e

    by_2 : (t : Bool) → (n == 2) ≡ t → (n == 0) ≡ false → (n == 1) ≡ false → CallComes N i a n
    by_2 true e e0 e1 = at 2 e (join_tests N a (is_child a.unjoined (a0 a)) refl)
    by_2 false e e0 e1 = by_3 (n == 3) refl e0 e1 e

    by_1 : (t : Bool) → (n == 1) ≡ t → (n == 0) ≡ false → CallComes N i a n
    by_1 true e e0 = at 1 e (create_comes N i a (slice_get a.drafts (a0 a)) refl)
    by_1 false e e0 = by_2 (n == 2) refl e0 e

    by_0 : (t : Bool) → (n == 0) ≡ t → CallComes N i a n
    by_0 true e = at 0 e (comes_end N a _ _ (end_.Exited (a0 a)) (λ c. refl))
    by_0 false e = by_1 (n == 1) refl e

-- a load is wanted only where the instruction needs one, into this register and with this sign
abbrev pub NeedLoads : ℕ → Need → ℕ → Bool → ℕ → Type 0
NeedLoads to need.Done rd s width = ⊥
NeedLoads to (need.Load address w is_signed) rd s width = (to ≡ rd) × (is_signed ≡ s) × (w ≡ width)
NeedLoads to (need.Store address w value) rd s width = ⊥
NeedLoads to need.Call rd s width = ⊥
NeedLoads to need.Break rd s width = ⊥
NeedLoads to need.JumpMisaligned rd s width = ⊥

abbrev pub InstrLoads : Hart → Option Instr → ℕ → Bool → ℕ → Type 0
InstrLoads h None rd s width = ⊥
InstrLoads h (Some ins) rd s width = NeedLoads ins.rd (local ins h).need rd s width

abbrev pub LoadsAt : Image → Hart → ℕ → Bool → ℕ → Type 0
LoadsAt i h = InstrLoads h (option_and_then decode (fetch i h.pc))

-- what an instruction needs has a width
goes_width : (ins : Instr) (h : Hart) (target : ℕ) (t : Bool) → HasWidth (if t then record { hart = record { pc = target; regs = put h.regs ins.rd (next_pc h.pc) }; need = need.Done } else needs_first h need.JumpMisaligned).need
goes_width ins h target true = tt
goes_width ins h target false = tt

turns_width : (h : Hart) (target : ℕ) (t : Bool) → HasWidth (if t then record { hart = record h { pc = target }; need = need.Done } else needs_first h need.JumpMisaligned).need
turns_width h target true = tt
turns_width h target false = tt

branches_width : (ins : Instr) (h : Hart) (t : Bool) → HasWidth (branches ins h t).need
branches_width ins h true = turns_width h _ _
branches_width ins h false = tt

width_where : (ins : Instr) (h : Hart) (o : Op) → ins.op ≡ o → HasWidth (local ins h).need
unfolding local
width_where ins h op.Lui is = rw is tt
width_where ins h op.Auipc is = rw is tt
width_where ins h op.Jal is = rw is (goes_width ins h _ _)
width_where ins h op.Jalr is = rw is (goes_width ins h _ _)
width_where ins h op.Beq is = rw is (branches_width ins h _)
width_where ins h op.Bne is = rw is (branches_width ins h _)
width_where ins h op.Blt is = rw is (branches_width ins h _)
width_where ins h op.Bge is = rw is (branches_width ins h _)
width_where ins h op.Bltu is = rw is (branches_width ins h _)
width_where ins h op.Bgeu is = rw is (branches_width ins h _)
width_where ins h op.Lb is = rw is (inl refl)
width_where ins h op.Lh is = rw is (inr (inl refl))
width_where ins h op.Lw is = rw is (inr (inr refl))
width_where ins h op.Lbu is = rw is (inl refl)
width_where ins h op.Lhu is = rw is (inr (inl refl))
width_where ins h op.Sb is = rw is (inl refl)
width_where ins h op.Sh is = rw is (inr (inl refl))
width_where ins h op.Sw is = rw is (inr (inr refl))
width_where ins h op.Addi is = rw is tt
width_where ins h op.Slti is = rw is tt
width_where ins h op.Sltiu is = rw is tt
width_where ins h op.Xori is = rw is tt
width_where ins h op.Ori is = rw is tt
width_where ins h op.Andi is = rw is tt
width_where ins h op.Slli is = rw is tt
width_where ins h op.Srli is = rw is tt
width_where ins h op.Srai is = rw is tt
width_where ins h op.Add is = rw is tt
width_where ins h op.Sll is = rw is tt
width_where ins h op.Slt is = rw is tt
width_where ins h op.Sltu is = rw is tt
width_where ins h op.Xor is = rw is tt
width_where ins h op.Srl is = rw is tt
width_where ins h op.Or is = rw is tt
width_where ins h op.And is = rw is tt
width_where ins h op.Sub is = rw is tt
width_where ins h op.Sra is = rw is tt
width_where ins h op.Mul is = rw is tt
width_where ins h op.Mulh is = rw is tt
width_where ins h op.Mulhsu is = rw is tt
width_where ins h op.Mulhu is = rw is tt
width_where ins h op.Div is = rw is tt
width_where ins h op.Divu is = rw is tt
width_where ins h op.Rem is = rw is tt
width_where ins h op.Remu is = rw is tt
width_where ins h op.Fence is = rw is tt
width_where ins h op.Ecall is = rw is tt
width_where ins h op.Ebreak is = rw is tt

pub needs_width : (ins : Instr) (h : Hart) → HasWidth (local ins h).need
needs_width ins h = width_where ins h ins.op refl

-- an instruction that is paid for
pub needed_comes : (i : Image) (ins : Instr) (a : ActorState) (h : Hart) (n : Need) → HasWidth n → a.phase ≡ phase.Running → Comes (NeedLoads ins.rd n) a (λ c. needed_request i c a ins.rd n) (λ c. need_refusal_after c a n) (needed_end i a n) (need_refusal i a n) (step_with_need i ins a h n)
unfolding serves
needed_comes i ins a h need.Done fits run = comes_on (NeedLoads ins.rd need.Done) a (record a { hart = h }) _ _ refl refl run (λ c. refl)
needed_comes i ins a h (need.Load address width s) fits run = load_comes (NeedLoads ins.rd (need.Load address width s)) i ins s a address width _ _ (range_at a.memory.ranges address width) (refl, refl, refl) (placed_at address width fits) run
needed_comes i ins a h (need.Store address width value) fits run = store_comes (NeedLoads ins.rd (need.Store address width value)) a address width value _ _ (range_at a.memory.ranges address width) (placed_at address width fits) run
needed_comes i ins a h need.Call fits run = call_comes (NeedLoads ins.rd need.Call) i a (a7 a)
needed_comes i ins a h need.Break fits run = comes_end (NeedLoads ins.rd need.Break) a _ _ end_.Break (λ c. refl)
needed_comes i ins a h need.JumpMisaligned fits run = comes_end (NeedLoads ins.rd need.JumpMisaligned) a _ _ end_.JumpMisaligned (λ c. refl)

executed_comes : (i : Image) (a : ActorState) (ins : Option Instr) → a.phase ≡ phase.Running → Comes (InstrLoads a.hart ins) a (λ c. instr_request i c a ins) (λ c. instr_refusal_after c a ins) (instr_end i a ins) (instr_refusal i a ins) (step_with_instr i a ins)
executed_comes i a None run = comes_end (InstrLoads a.hart None) a _ _ end_.BadInstruction (λ c. refl)
executed_comes i a (Some ins) run = needed_comes i ins a (local ins a.hart).hart (local ins a.hart).need (needs_width ins a.hart) run

-- one instruction of an actor that runs: with no fuel, or no word, it ends
pub stuck : (i : Image) (a : ActorState) → a.fuel ≡ zero → (e : End) × (step i a ≡ ends a e) × (end_at i a ≡ Some e)
unfolding step
stuck i a out = fetched_stuck (fetch i a.hart.pc)
  where
    fetched_stuck : (w : Option ℕ) → (e : End) × (step_with_word i a w ≡ ends a e) × (word_end i a w ≡ Some e)
    fetched_stuck None = (end_.FetchFault, refl, refl)
    fetched_stuck (Some word) = (end_.FuelOut, ap (step_with_fuel i a word) out, ap (fuel_end i a word) out)

fetched_comes : (i : Image) (a : ActorState) (n : ℕ) (w : Option ℕ) → a.phase ≡ phase.Running → a.fuel ≡ suc n
    → Comes (InstrLoads a.hart (option_and_then decode w)) (record a { fuel = n }) (λ c. word_request i c (record a { fuel = n }) w) (λ c. word_refusal_after c (record a { fuel = n }) w) (word_end i a w) (word_refusal i (record a { fuel = n }) w) (step_with_word i a w)
fetched_comes i a n None run has = record { name = refl; quiet = λ c h. refl; met = λ c r h. absurd cc; ends = refl; wants = tt; codes = λ m h. absurd cc }
fetched_comes i a n (Some word) run has =
    let p = record a { fuel = n } in
    let asked : Cells → Option Request = λ c. instr_request i c p (decode word) in
    let later : Cells → Option ℕ = λ c. instr_refusal_after c p (decode word) in
    let told = instr_refusal i p (decode word) in
    let left : n ≡ a.fuel - 1 = omega (arith, has) in
    let paid = subst (λ m. Comes (InstrLoads a.hart (decode word)) p asked later (instr_end i a (decode word)) told (step_with_instr i (record a { fuel = m }) (decode word))) left (executed_comes i p (decode word) run) in
    subst (λ m. Comes (InstrLoads a.hart (decode word)) p asked later (fuel_end i a word m) told (step_with_fuel i a word m)) (sym has) paid

pub step_comes : (i : Image) (a : ActorState) (n : ℕ) → a.phase ≡ phase.Running → a.fuel ≡ suc n
    → Comes (LoadsAt i a.hart) (record a { fuel = n }) (λ c. request_at i c (record a { fuel = n })) (λ c. refusal_after i c (record a { fuel = n })) (end_at i a) (refusal_at i (record a { fuel = n })) (step i a)
unfolding step
step_comes i a n run has = fetched_comes i a n (fetch i a.hart.pc) run has

-- how many slots a run of an image has: 4,096, or as many as it declares tags
abbrev pub slots_in : Image → ℕ
slots_in i = length i.tags + (most_slots - length i.tags)

-- how many descriptors a run of an image has: 1,024, or as many as it declares; and a number of one of them
abbrev pub fds_in : Image → ℕ
fds_in i = length i.fds + (most_fds - length i.fds)

abbrev pub NumberIn : Image → Option ℕ → Type 0
NumberIn i None = Unit {0}
NumberIn i (Some fd) = fd < fds_in i

-- what an actor is in by its phase: within an instruction it wants what that comes to, and one that is about to start a
-- child may do so
abbrev pub ReadsAs : Image → ActorState → Phase → Type 0
ReadsAs i a (phase.Within q) = (rd : ℕ) × (s : Bool) × ((c : Cells) → request_at i c a ≡ request_for c a rd s q) × IsWanted (LoadsAt i a.hart rd s) a q × ((c : Cells) → refusal_after i c a ≡ refusal_for c a q) × IsInCell q
ReadsAs i a phase.Running = Unit {0}
ReadsAs i a (phase.Starting pre) = IsStartable a
ReadsAs i a (phase.MakingGate pre) = IsMakeable a pre
ReadsAs i a (phase.Opening slot tag) = (slot < slots_in i) × AsksForPages a
ReadsAs i a (phase.Releasing slot) = Unit {0}
ReadsAs i a (phase.Entering entrance) = IsEnterable a entrance
ReadsAs i a (phase.Waiting number) = Unit {0}
ReadsAs i a (phase.OpeningFile o) = (a1 a ≤ a.fuel) × NumberIn i o.number × IsOpening a (λ c. request_at i c a) o
ReadsAs i a (phase.Ending e) = Unit {0}
ReadsAs i a (phase.Ended e) = Unit {0}

-- what is asked does not turn on what the actor is at
wanted_within : (N : ℕ → Type 0) (p : ActorState) (ph : Phase) (q : Want) → IsWanted N p q → IsWanted N (record p { phase = ph }) q
wanted_within N p ph (want.Slots directory_ask.Claim) k = k
wanted_within N p ph (want.Slot slot (slot_want.Close tag)) k = k
wanted_within N p ph (want.Slot slot (slot_want.Smalloc tag size)) k = k
wanted_within N p ph (want.Slot slot (slot_want.Sfree offset)) k = k
wanted_within N p ph (want.Slot slot (slot_want.Load offset width)) k = k
wanted_within N p ph (want.Slot slot (slot_want.Store offset width value)) k = k
wanted_within N p ph (want.Fd fd q) k = request_at_phase p ph fd q k
wanted_within N p ph (want.Lives lives_ask.Claim) k = startable_at p ph k
wanted_within N p ph (want.Join child) k = k
wanted_within N p ph q k = absurd k

request_within : (c : Cells) (p : ActorState) (ph : Phase) (rd : ℕ) (s : Bool) (q : Want) → request_for c p rd s q ≡ request_for c (record p { phase = ph }) rd s q
request_within c p ph rd s (want.Slot slot (slot_want.Load offset width)) = refl
request_within c p ph rd s (want.Slot slot (slot_want.Store offset width value)) = refl
request_within c p ph rd s (want.Fd fd q) = refl
request_within c p ph rd s (want.Lives lives_ask.Claim) = refl
request_within c p ph rd s q = refl

refusal_within : (c : Cells) (p : ActorState) (ph : Phase) (q : Want) → refusal_for c p q ≡ refusal_for c (record p { phase = ph }) q
refusal_within c p ph (want.Slot slot (slot_want.Sfree offset)) = refl
refusal_within c p ph (want.Fd fd q) = refusal_at_phase p ph fd q (stream_in c fd)
refusal_within c p ph (want.Lives lives_ask.Claim) = refl
refusal_within c p ph q = refl

reads_within : (i : Image) (p : ActorState) (q : Want) (rd : ℕ) (s : Bool) → ((c : Cells) → request_at i c p ≡ request_for c p rd s q) → IsWanted (LoadsAt i p.hart rd s) p q → ((c : Cells) → refusal_after i c p ≡ refusal_for c p q) → IsInCell q
    → ReadsAs i (record p { phase = phase.Within q }) (phase.Within q)
reads_within i p q rd s asked own later inside =
    (rd, s, λ c. asked c ∙ request_within c p (phase.Within q) rd s q, wanted_within (LoadsAt i p.hart rd s) p (phase.Within q) q own, λ c. later c ∙ refusal_within c p (phase.Within q) q, inside)

reads_of : (i : Image) (p x : ActorState) (ph : Phase) → WantsAs (LoadsAt i p.hart) p (λ c. request_at i c p) (λ c. refusal_after i c p) x ph → ReadsAs i x ph
reads_of i p x (phase.Within q) w = subst (λ y. ReadsAs i y (phase.Within q)) (sym w.2) (reads_within i p q w.0 w.1 w.3 w.4 w.5 w.6)
reads_of i p x phase.Running w = tt
reads_of i p x (phase.Starting pre) w = absurd w
reads_of i p x (phase.MakingGate pre) w = subst (λ y. ReadsAs i y (phase.MakingGate pre)) (sym w.0) (granting_at p (phase.MakingGate pre) pre w.1)
reads_of i p x (phase.Opening slot tag) w = absurd w
reads_of i p x (phase.Releasing slot) w = absurd w
reads_of i p x (phase.Entering entrance) w = subst (λ y. ReadsAs i y (phase.Entering entrance)) (sym w.0) (enterable_at p (phase.Entering entrance) entrance w.1)
reads_of i p x (phase.Waiting number) w = absurd w
reads_of i p x (phase.OpeningFile o) w = subst (λ y. ReadsAs i y (phase.OpeningFile o)) (sym w.0)
    (w.2, subst (NumberIn i) (sym w.1) tt, record { path = w.3.path; file = w.3.file; bits = w.3.bits; told = w.3.told; allowed = w.3.allowed; passed = w.3.passed; is = w.3.is })
reads_of i p x (phase.Ending e) w = tt
reads_of i p x (phase.Ended e) w = tt

step_reads : (i : Image) (a : ActorState) (n : ℕ) → a.fuel ≡ n → a.phase ≡ phase.Running → ReadsAs i (step i a) (step i a).phase
step_reads i a zero has run = let s = stuck i a has in subst (λ x. ReadsAs i x x.phase) (sym s.1) tt
step_reads i a (suc n) has run = reads_of i (record a { fuel = n }) (step i a) (step i a).phase (step_comes i a n run has).wants

reads_from : (i : Image) (n : ℕ) (a : ActorState) (b : Bool) → is_running a.phase ≡ b → ReadsAs i a a.phase → ReadsAs i (run_local i n a) (run_local i n a).phase
reads_from i n a false e h = rw (stays i n a e) h
reads_from i zero a true e h = unfold run_local in h
reads_from i (suc n) a true e h = rw (goes_on i n a e) (reads_from i n (step i a) _ refl (step_reads i a _ refl (running_is a.phase e)))

pub rest_reads : (i : Image) (a : ActorState) → ReadsAs i a a.phase → ReadsAs i (rest i a) (rest i a).phase
unfolding rest
rest_reads i a h = reads_from i (a.fuel + 1) a _ refl h
