-- The draft of a request to make a gate is the one that its call names.
use Rattle.std.proofs.Common.{◌≡◌, ℕ, Bool, true, false, List}
use Rattle.std.specs.Prelude.{Option, Some, None, is_some, option_map, slice_get, length, nat_le, nat_lt, ◌&&◌, ◌==◌, if◌then◌else◌}
use Rattle.std.specs.List.{list_any}
use Rattle.cow_pages.specs.Copies.{copy_at}
use Rattle.wedge_base.specs.Images.{Image, fetch, slot_of}
use Rattle.wedge_base.specs.Sheets.{Draft}
use Rattle.wedge_events.specs.Slots.{Segment}
use Rattle.wedge_events.specs.Streams.{Stream, most_fds}
use Rattle.wedge_base.specs.declared.address.Place.{Place}
use Rattle.wedge_base.specs.declared.image.FileEntry.{FileEntry}
use Rattle.wedge_base.specs.declared.rights.FdBits.{FdBits}
use Rattle.rv_isa.specs.declared.Instr.{Instr}
use Rattle.rv_isa.specs.Table.{decode}
use Rattle.rv_hart.specs.declared.Need.{Need}
use Rattle.rv_hart.specs.declared.Need.TheVariants as need
use Rattle.rv_hart.specs.Local.{local, reg}
use Rattle.callgate.specs.declared.gate.Gate.{Gate}
use Rattle.machine.specs.Actors.{ActorState, gate_held}
use Rattle.machine.specs.Calls.{a0, a7}
use Rattle.machine.specs.Cells.{Cells, slot_in, stream_in}
use Rattle.machine.specs.Entering.{may_lend}
use Rattle.run_laws.specs.Requests.{Access, Request, Loads, Stores, Reads, Appends, Closes, Opens, Creates, Makes, Enters, Allots, Frees, reaches_window, in_tag, in_window, buffer_bytes, path_at, in_stream, is_room, append_of, bits_to_open, file_of, open_of, create_of, suits_gate, make_of, lending_of, enter_of, free_of, lent_of, call_request, needed_request, instr_request, word_request, request_at}

if_makes : {X : Type 0} (t : Bool) (x y : Option Request) (d : Draft) → (x ≡ Some (Makes d) → X) → (y ≡ Some (Makes d) → X) → (if t then x else y) ≡ Some (Makes d) → X
if_makes true x y d first second e = first e
if_makes false x y d first second e = second e

in_tag_not : (f : Access → Request) (p : Place) (width : ℕ) (g : Option Segment) (d : Draft) → ((x : Access) → f x ≡ Makes d → ⊥) → in_tag f p width g ≡ Some (Makes d) → ⊥
in_tag_not f p width None d h e = cc
in_tag_not f p width (Some g) d h e =
    if_makes (nat_lt p.offset (length g.bytes)) (Some (f (record { place = p; width = width; living = g }))) None d (λ k. h (record { place = p; width = width; living = g }) cc) (λ k. cc) e

in_window_not : (f : Access → Request) (c : Cells) (a : ActorState) (width : ℕ) (p : Option Place) (d : Draft) → ((x : Access) → f x ≡ Makes d → ⊥) → in_window f c a width p ≡ Some (Makes d) → ⊥
in_window_not f c a width None d h e = cc
in_window_not f c a width (Some p) d h e =
    if_makes (is_some (copy_at a.memory.copies p.slot)) None (in_tag f p width (slot_in c p.slot)) d (λ k. cc) (in_tag_not f p width (slot_in c p.slot) d h) e

in_stream_not : (f : Stream → Request) (s : Option Stream) (d : Draft) → ((x : Stream) → f x ≡ Makes d → ⊥) → in_stream f s ≡ Some (Makes d) → ⊥
in_stream_not f None d h e = cc
in_stream_not f (Some s) d h e = if_makes s.live (Some (f s)) None d (λ k. h s cc) (λ k. cc) e

create_not : (i : Image) (entry : ℕ) (o : Option Draft) (d : Draft) → create_of i entry o ≡ Some (Makes d) → ⊥
create_not i entry None d e = cc
create_not i entry (Some x) d e = if_makes (list_any (λ p. p.address == entry) i.procedures) (Some (Creates x)) None d (λ k. cc) (λ k. cc) e

free_not : (c : Cells) (p : Option Place) (d : Draft) → free_of c p ≡ Some (Makes d) → ⊥
free_not c None d e = cc
free_not c (Some p) d e = by_slot (slot_in c p.slot) e
  where
    by_slot : (g : Option Segment) → option_map (Frees p) g ≡ Some (Makes d) → ⊥
    by_slot None k = cc
    by_slot (Some g) k = cc

append_not : (c : Cells) (a : ActorState) (fd n : ℕ) (o : Option (List ℕ)) (d : Draft) → append_of c a fd n o ≡ Some (Makes d) → ⊥
append_not c a fd n None d e = cc
append_not c a fd n (Some bytes) d e =
    if_makes (nat_le n a.fuel && nat_lt fd most_fds) (in_stream (λ s. Appends fd s bytes) (stream_in c fd)) None d (in_stream_not (λ s. Appends fd s bytes) (stream_in c fd) d (λ x k. cc)) (λ k. cc) e

open_not : (i : Image) (a : ActorState) (n : ℕ) (b : Option FdBits) (path : Option (List ℕ)) (d : Draft) → open_of i a n b path ≡ Some (Makes d) → ⊥
open_not i a n None path d e = cc
open_not i a n (Some b) None d e = cc
open_not i a n (Some b) (Some path) d e = if_makes (nat_le n a.fuel) (option_map (λ f. Opens path f b) (file_of i path)) None d (by_file (file_of i path)) (λ k. cc) e
  where
    by_file : (o : Option FileEntry) → option_map (λ f. Opens path f b) o ≡ Some (Makes d) → ⊥
    by_file None k = cc
    by_file (Some f) k = cc

lending_not : (entry : ℕ) (o : Option (Option Draft)) (d : Draft) → lending_of entry o ≡ Some (Makes d) → ⊥
lending_not entry None d e = cc
lending_not entry (Some lent) d e = if_makes (may_lend lent) (Some (Enters entry lent)) None d (λ k. cc) (λ k. cc) e

enter_not : (entry : ℕ) (g : Option Gate) (o : Option (Option Draft)) (d : Draft) → enter_of entry g o ≡ Some (Makes d) → ⊥
enter_not entry None o d e = cc
enter_not entry (Some g) o d e = lending_not entry o d e

make_drafted : (i : Image) (entry kind : ℕ) (o : Option Draft) (d : Draft) → make_of i entry kind o ≡ Some (Makes d) → o ≡ Some d
make_drafted i entry kind None d e = absurd cc
make_drafted i entry kind (Some x) d e = if_makes (suits_gate i entry kind x) (Some (Makes x)) None d (λ k. cc) (λ k. absurd cc) e

call_drafted : (i : Image) (c : Cells) (a : ActorState) (n : ℕ) (d : Draft) → call_request i c a a.hart.regs n ≡ Some (Makes d) → slice_get a.drafts (a0 a) ≡ Some d
call_drafted i c a n d =
    let r = reg a.hart.regs in
    if_makes (n == 1) _ _ d (λ k. absurd (create_not i (r 11) (slice_get a.drafts (r 10)) d k))
    (if_makes (n == 4) _ _ d (λ k. absurd cc)
    (if_makes (n == 5) _ _ d (λ k. absurd (if_makes (r 11 == 0) None (Some (Allots (r 10) (r 11))) d (λ j. cc) (λ j. cc) k))
    (if_makes (n == 6) _ _ d (λ k. absurd (free_not c (slot_of (r 10)) d k))
    (if_makes (n == 13) _ _ d (make_drafted i (r 11) (r 14) (slice_get a.drafts (r 10)) d)
    (if_makes (n == 14) _ _ d (λ k. absurd (enter_not (r 10) (gate_held a (r 10)) (lent_of a.drafts (r 12)) d k))
    (if_makes (n == 15) _ _ d
    (λ k. absurd (if_makes (is_room a (r 11) (r 12) && (nat_le (r 12) a.fuel && nat_lt (r 10) most_fds)) (in_stream (λ s. Reads (r 10) s (r 12)) (stream_in c (r 10))) None d (in_stream_not (λ s. Reads (r 10) s (r 12)) (stream_in c (r 10)) d (λ x j. cc)) (λ j. cc) k))
    (if_makes (n == 16) _ _ d (λ k. absurd (append_not c a (r 10) (r 12) (buffer_bytes i a (r 11) (r 12)) d k))
    (if_makes (n == 17) _ _ d
    (λ k. absurd (if_makes (nat_lt (r 10) most_fds) (in_stream (Closes (r 10)) (stream_in c (r 10))) None d (in_stream_not (Closes (r 10)) (stream_in c (r 10)) d (λ x j. cc)) (λ j. cc) k))
    (if_makes (n == 18) _ None d (λ k. absurd (open_not i a (r 11) (bits_to_open (r 12)) (path_at i a (r 10) (r 11)) d k)) (λ k. absurd cc))))))))))

need_drafted : (i : Image) (c : Cells) (a : ActorState) (rd : ℕ) (n : Need) (d : Draft) → needed_request i c a rd n ≡ Some (Makes d) → slice_get a.drafts (a0 a) ≡ Some d
need_drafted i c a rd need.Call d e = call_drafted i c a (a7 a) d e
need_drafted i c a rd (need.Load address width s) d e =
    absurd (if_makes (reaches_window i a address width) (in_window (λ x. Loads x rd s) c a width (slot_of address)) None d (in_window_not (λ x. Loads x rd s) c a width (slot_of address) d (λ x k. cc)) (λ k. cc) e)
need_drafted i c a rd (need.Store address width value) d e =
    absurd (if_makes (reaches_window i a address width) (in_window (λ x. Stores x value) c a width (slot_of address)) None d (in_window_not (λ x. Stores x value) c a width (slot_of address) d (λ x k. cc)) (λ k. cc) e)
need_drafted i c a rd need.Done d e = absurd cc
need_drafted i c a rd need.Break d e = absurd cc
need_drafted i c a rd need.JumpMisaligned d e = absurd cc

instr_drafted : (i : Image) (c : Cells) (a : ActorState) (ins : Option Instr) (d : Draft) → instr_request i c a ins ≡ Some (Makes d) → slice_get a.drafts (a0 a) ≡ Some d
instr_drafted i c a None d e = absurd cc
instr_drafted i c a (Some ins) d e = need_drafted i c a ins.rd (local ins a.hart).need d e

word_drafted : (i : Image) (c : Cells) (a : ActorState) (w : Option ℕ) (d : Draft) → word_request i c a w ≡ Some (Makes d) → slice_get a.drafts (a0 a) ≡ Some d
word_drafted i c a None d e = absurd cc
word_drafted i c a (Some word) d e = instr_drafted i c a (decode word) d e

pub makes_drafted : (i : Image) (c : Cells) (a : ActorState) (d : Draft) → request_at i c a ≡ Some (Makes d) → slice_get a.drafts (a0 a) ≡ Some d
makes_drafted i c a d e = word_drafted i c a (fetch i a.hart.pc) d e
