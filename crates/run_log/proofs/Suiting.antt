-- What a request tells of the image: where it starts a child or makes a gate, a procedure begins at the entry; and what it opens is a
-- file of the image.
use Rattle.std.proofs.Common.{◌≡◌, ℕ, Bool, true, false, List, refl, subst}
use Rattle.std.specs.Prelude.{Option, Some, None, IfSome, is_some, option_map, slice_get, length, nat_le, nat_lt, ◌&&◌, ◌||◌, ◌==◌, is_none, if◌then◌else◌}
use Rattle.std.specs.List.{list_any}
use Rattle.cow_pages.specs.Copies.{copy_at}
use Rattle.wedge_base.specs.Images.{Image, fetch, slot_of}
use Rattle.wedge_base.specs.Sheets.{Draft}
use Rattle.wedge_base.specs.declared.address.Place.{Place}
use Rattle.wedge_base.specs.declared.image.FileEntry.{FileEntry}
use Rattle.wedge_base.specs.declared.rights.FdBits.{FdBits}
use Rattle.wedge_events.specs.Slots.{Segment}
use Rattle.wedge_events.specs.Streams.{Stream, most_fds}
use Rattle.rv_isa.specs.declared.Instr.{Instr}
use Rattle.rv_isa.specs.Table.{decode}
use Rattle.rv_hart.specs.declared.Need.{Need}
use Rattle.rv_hart.specs.declared.Need.TheVariants as need
use Rattle.rv_hart.specs.Local.{local, reg}
use Rattle.callgate.specs.declared.gate.Gate.{Gate}
use Rattle.machine.specs.Actors.{ActorState}
use Rattle.machine.specs.Cells.{Cells, slot_in, stream_in}
use Rattle.run_laws.specs.Holding.{gate_for, is_loan}
use Rattle.run_laws.specs.Requests.{Access, Request, Loads, Stores, Reads, Appends, Closes, Opens, Creates, Makes, Enters, Deletes, Allots, Frees, reaches_window, in_tag, in_window, buffer_bytes, path_at, in_stream, is_room, append_of, bits_to_open, file_of, open_of, create_of, make_of, enter_of, free_of, lent_of, call_request, needed_request, instr_request, word_request, request_at}
use Rattle.run_log.specs.NamedNotes.{BeginsAt}

abbrev pub Suits : Image → ℕ → Request → Type 0
Suits i entry (Creates d) = BeginsAt i entry
Suits i entry (Makes d) = BeginsAt i entry
Suits i entry (Opens path f b) = file_of i path ≡ Some f
Suits i entry r = Unit {0}

if_some : (P : Request → Type 0) (t : Bool) (x y : Option Request) → IfSome x P → IfSome y P → IfSome (if t then x else y) P
if_some P true x y first second = first
if_some P false x y first second = second

in_tag_some : (P : Request → Type 0) (f : Access → Request) (p : Place) (width : ℕ) (g : Option Segment) → ((x : Access) → P (f x)) → IfSome (in_tag f p width g) P
in_tag_some P f p width None each = tt
in_tag_some P f p width (Some g) each =
    if_some P (nat_lt p.offset (length g.bytes)) (Some (f (record { place = p; width = width; living = g }))) None (each (record { place = p; width = width; living = g })) tt

in_window_some : (P : Request → Type 0) (f : Access → Request) (c : Cells) (a : ActorState) (width : ℕ) (p : Option Place) → ((x : Access) → P (f x)) → IfSome (in_window f c a width p) P
in_window_some P f c a width None each = tt
in_window_some P f c a width (Some p) each =
    if_some P (is_some (copy_at a.memory.copies p.slot)) None (in_tag f p width (slot_in c p.slot)) tt (in_tag_some P f p width (slot_in c p.slot) each)

in_stream_some : (P : Request → Type 0) (f : Stream → Request) (s : Option Stream) → ((x : Stream) → P (f x)) → IfSome (in_stream f s) P
in_stream_some P f None each = tt
in_stream_some P f (Some s) each = if_some P s.live (Some (f s)) None (each s) tt

create_suits : (i : Image) (entry : ℕ) (o : Option Draft) → IfSome (create_of i entry o) (Suits i entry)
create_suits i entry None = tt
create_suits i entry (Some d) = by_test (list_any (λ p. p.address == entry) i.procedures) refl
  where
    by_test : (t : Bool) → list_any (λ p. p.address == entry) i.procedures ≡ t → IfSome (if t then Some (Creates d) else None) (Suits i entry)
    by_test true e = e
    by_test false e = tt

make_suits : (i : Image) (entry kind : ℕ) (o : Option Draft) → IfSome (make_of i entry kind o) (Suits i entry)
make_suits i entry kind None = tt
make_suits i entry kind (Some d) = by_tests (list_any (λ p. p.address == entry) i.procedures) (((kind == 0) || (kind == 1)) && (is_none d.user && is_none d.root)) refl
  where
    by_tests : (t u : Bool) → list_any (λ p. p.address == entry) i.procedures ≡ t → IfSome (if t && u then Some (Makes d) else None) (Suits i entry)
    by_tests true true e = e
    by_tests true false e = tt
    by_tests false u e = tt

free_suits : (i : Image) (entry : ℕ) (c : Cells) (p : Option Place) → IfSome (free_of c p) (Suits i entry)
free_suits i entry c None = tt
free_suits i entry c (Some p) = by_slot (slot_in c p.slot)
  where
    by_slot : (g : Option Segment) → IfSome (option_map (Frees p) g) (Suits i entry)
    by_slot None = tt
    by_slot (Some g) = tt

append_suits : (i : Image) (entry : ℕ) (c : Cells) (a : ActorState) (fd n : ℕ) (o : Option (List ℕ)) → IfSome (append_of c a fd n o) (Suits i entry)
append_suits i entry c a fd n None = tt
append_suits i entry c a fd n (Some bytes) =
    if_some (Suits i entry) (nat_le n a.fuel && nat_lt fd most_fds) (in_stream (λ s. Appends fd s bytes) (stream_in c fd)) None (in_stream_some (Suits i entry) (λ s. Appends fd s bytes) (stream_in c fd) (λ x. tt)) tt

open_suits : (i : Image) (entry : ℕ) (a : ActorState) (n : ℕ) (b : Option FdBits) (path : Option (List ℕ)) → IfSome (open_of i a n b path) (Suits i entry)
open_suits i entry a n None path = tt
open_suits i entry a n (Some b) None = tt
open_suits i entry a n (Some b) (Some path) = if_some (Suits i entry) (nat_le n a.fuel) (option_map (λ f. Opens path f b) (file_of i path)) None (by_file (file_of i path) refl) tt
  where
    by_file : (o : Option FileEntry) → file_of i path ≡ o → IfSome (option_map (λ f. Opens path f b) o) (Suits i entry)
    by_file None e = tt
    by_file (Some f) e = e

enter_suits : (i : Image) (at : ℕ) (entry : ℕ) (g : Option Gate) (o : Option (Option Draft)) → IfSome (enter_of entry g o) (Suits i at)
enter_suits i at entry None o = tt
enter_suits i at entry (Some g) None = tt
enter_suits i at entry (Some g) (Some lent) = if_some (Suits i at) (is_loan lent) (Some (Enters entry lent)) None tt tt

call_suits : (i : Image) (c : Cells) (a : ActorState) (n : ℕ) → IfSome (call_request i c a a.hart.regs n) (Suits i (reg a.hart.regs 11))
call_suits i c a n =
    let r = reg a.hart.regs in
    let P = Suits i (r 11) in
    if_some P (n == 1) _ _ (create_suits i (r 11) (slice_get a.drafts (r 10)))
    (if_some P (n == 4) (Some (Deletes (r 10))) _ tt
    (if_some P (n == 5) _ _ (if_some P (r 11 == 0) None (Some (Allots (r 10) (r 11))) tt tt)
    (if_some P (n == 6) _ _ (free_suits i (r 11) c (slot_of (r 10)))
    (if_some P (n == 13) _ _ (make_suits i (r 11) (r 14) (slice_get a.drafts (r 10)))
    (if_some P (n == 14) _ _ (enter_suits i (r 11) (r 10) (gate_for a (r 10)) (lent_of a.drafts (r 12)))
    (if_some P (n == 15) _ _
    (if_some P (is_room a (r 11) (r 12) && (nat_le (r 12) a.fuel && nat_lt (r 10) most_fds)) (in_stream (λ s. Reads (r 10) s (r 12)) (stream_in c (r 10))) None
    (in_stream_some P (λ s. Reads (r 10) s (r 12)) (stream_in c (r 10)) (λ x. tt)) tt)
    (if_some P (n == 16) _ _ (append_suits i (r 11) c a (r 10) (r 12) (buffer_bytes i a (r 11) (r 12)))
    (if_some P (n == 17) _ _ (if_some P (nat_lt (r 10) most_fds) (in_stream (Closes (r 10)) (stream_in c (r 10))) None (in_stream_some P (Closes (r 10)) (stream_in c (r 10)) (λ x. tt)) tt)
    (if_some P (n == 18) _ None (open_suits i (r 11) a (r 11) (bits_to_open (r 12)) (path_at i a (r 10) (r 11))) tt)))))))))

need_suits : (i : Image) (c : Cells) (a : ActorState) (rd : ℕ) (n : Need) → IfSome (needed_request i c a rd n) (Suits i (reg a.hart.regs 11))
need_suits i c a rd need.Call = call_suits i c a (reg a.hart.regs 17)
need_suits i c a rd (need.Load address width s) =
    let P = Suits i (reg a.hart.regs 11) in
    if_some P (reaches_window i a address width) (in_window (λ x. Loads x rd s) c a width (slot_of address)) None (in_window_some P (λ x. Loads x rd s) c a width (slot_of address) (λ x. tt)) tt
need_suits i c a rd (need.Store address width value) =
    let P = Suits i (reg a.hart.regs 11) in
    if_some P (reaches_window i a address width) (in_window (λ x. Stores x value) c a width (slot_of address)) None (in_window_some P (λ x. Stores x value) c a width (slot_of address) (λ x. tt)) tt
need_suits i c a rd need.Done = tt
need_suits i c a rd need.Break = tt
need_suits i c a rd need.JumpMisaligned = tt

instr_suits : (i : Image) (c : Cells) (a : ActorState) (ins : Option Instr) → IfSome (instr_request i c a ins) (Suits i (reg a.hart.regs 11))
instr_suits i c a None = tt
instr_suits i c a (Some ins) = need_suits i c a ins.rd (local ins a.hart).need

word_suits : (i : Image) (c : Cells) (a : ActorState) (w : Option ℕ) → IfSome (word_request i c a w) (Suits i (reg a.hart.regs 11))
word_suits i c a None = tt
word_suits i c a (Some word) = instr_suits i c a (decode word)

pub request_suits : (i : Image) (c : Cells) (a : ActorState) → IfSome (request_at i c a) (Suits i (reg a.hart.regs 11))
request_suits i c a = word_suits i c a (fetch i a.hart.pc)

-- so it is with one that is made
pub asked_suits : (i : Image) (c : Cells) (a : ActorState) (r : Request) → request_at i c a ≡ Some r → Suits i (reg a.hart.regs 11) r
asked_suits i c a r e = subst (λ o. IfSome o (Suits i (reg a.hart.regs 11))) e (request_suits i c a)
