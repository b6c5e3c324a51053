-- An instruction comes to the event that its word says, and its event asks what its actor came for.
use Rattle.std.proofs.Common.{◌≡◌, ℕ, zero, suc, ◌-◌, ◌==◌, Bool, true, false, List, refl, sym, ap, subst, ◌∙◌, arith}
use Rattle.std.proofs.lemmas.Bool.{eqb-true}
use Rattle.std.specs.Prelude.{Option, Some, None, is_some, not, ◌&&◌, nat_lt, nat_le, if◌then◌else◌}
use Rattle.cow_pages.specs.Copies.{copy_at}
use Rattle.wedge_base.specs.Bytes.{number_of}
use Rattle.wedge_base.specs.Images.{Image, fetch, slot_of, in_text, read_text}
use Rattle.wedge_base.specs.Memory.{range_at}
use Rattle.wedge_base.specs.declared.address.Place.{Place}
use Rattle.wedge_base.specs.declared.image.MemoryRange.{MemoryRange}
use Rattle.wedge_base.specs.declared.rights.Code.TheVariants as code
use Rattle.wedge_base.specs.declared.rights.End.TheVariants as end_
use Rattle.wedge_events.specs.Streams.{most_fds}
use Rattle.wedge_events.specs.declared.cells.DirectoryAsk.TheVariants as directory_ask
use Rattle.wedge_events.specs.declared.cells.LivesAsk.TheVariants as lives_ask
use Rattle.wedge_events.specs.declared.cells.StreamAsk.TheVariants as stream_ask
use Rattle.wedge_events.specs.declared.events.Event.{Event}
use Rattle.wedge_events.specs.declared.events.SlotWant.TheVariants as slot_want
use Rattle.wedge_events.specs.declared.events.Want.{Want}
use Rattle.wedge_events.specs.declared.events.Want.TheVariants as want
use Rattle.rv_isa.specs.declared.Instr.{Instr}
use Rattle.rv_isa.specs.Table.{decode}
use Rattle.rv_hart.specs.declared.Hart.{Hart}
use Rattle.rv_hart.specs.declared.Need.{Need}
use Rattle.rv_hart.specs.declared.Need.TheVariants as need
use Rattle.rv_hart.specs.Local.{local}
use Rattle.machine.specs.declared.phase.Phase.TheVariants as phase
use Rattle.machine.specs.Accesses.{has_loaded, load_copy, load_window, load_range, store_copy, store_window, store_range, fits_read, fits_write, buffer}
use Rattle.machine.specs.Actors.{ActorState, bits_of, ends, refuses, wants}
use Rattle.machine.specs.Calls.{a0, a1, a2, a7, are_pages, serves, free_at}
use Rattle.machine.specs.Children.{is_child}
use Rattle.machine.specs.Local.{step_with_need, step_with_instr, step_with_fuel, step_with_word, step}
use Rattle.run_laws.specs.Asking.{window_want, free_want, read_want, append_want, close_want, join_want, claim_want, call_want, need_want, instr_want, word_want, want_at, ComesWith, AsksFor, AsksNumber, AsksAt}
use Rattle.run_laws.specs.Requests.{buffer_bytes}
use Rattle.machine.specs.Worlds.{WorldState, with_actor}
use Rattle.run_laws.proofs.Between.{event_for}
use Rattle.run_laws.proofs.Buffers.{buffer_is}
use Rattle.run_laws.proofs.Happening.{Happens, Requested, Joined, Snaps, GateSnaps, Started, Opens, Releases, Numbers, OpensFile, LastJoined, Ended, EntersGate, LeavesGate, EntersRecycled, LeavesRecycled}
use Rattle.run_laws.proofs.Meeting.{IsRequest, not_below, not_above, pages_tests}
use Rattle.run_laws.proofs.Named.{put_put}

-- ---- an instruction

-- a load and a store that reach a window
window_loads : (ins : Instr) (s : Bool) (p : ActorState) (width : ℕ) (o : Option Place) (q : Want) → window_want p (λ offset. slot_want.Load offset width) o ≡ Some q → load_window ins s p width o ≡ wants p q
window_loads ins s p width None q told = absurd cc
window_loads ins s p width (Some x) q told = by_copy (copy_at p.memory.copies x.slot) told
  where
    by_copy : (c : Option (List ℕ)) → (if is_some c then None else Some (want.Slot x.slot (slot_want.Load x.offset width))) ≡ Some q → load_copy ins s p width x c ≡ wants p q
    by_copy None e = let is : want.Slot x.slot (slot_want.Load x.offset width) ≡ q = cc in ap (wants p) is
    by_copy (Some bytes) e = absurd cc

load_wants : (i : Image) (ins : Instr) (s : Bool) (p : ActorState) (address width : ℕ) (q : Want) (t u : Bool) (r : Option MemoryRange)
    → (if t && not u && not (is_some r) then window_want p (λ offset. slot_want.Load offset width) (slot_of address) else None) ≡ Some q
    → (if not t then ends p end_.Misaligned else if u then has_loaded ins s p width (number_of (read_text i address width)) else load_range ins s p address width r) ≡ wants p q
load_wants i ins s p address width q false u r told = absurd cc
load_wants i ins s p address width q true true r told = absurd cc
load_wants i ins s p address width q true false (Some r) told = absurd cc
load_wants i ins s p address width q true false None told = window_loads ins s p width (slot_of address) q told

window_stores : (p : ActorState) (width value : ℕ) (o : Option Place) (q : Want) → window_want p (λ offset. slot_want.Store offset width value) o ≡ Some q → store_window p width value o ≡ wants p q
window_stores p width value None q told = absurd cc
window_stores p width value (Some x) q told = by_copy (copy_at p.memory.copies x.slot) told
  where
    by_copy : (c : Option (List ℕ)) → (if is_some c then None else Some (want.Slot x.slot (slot_want.Store x.offset width value))) ≡ Some q → store_copy p width value x c ≡ wants p q
    by_copy None e = let is : want.Slot x.slot (slot_want.Store x.offset width value) ≡ q = cc in ap (wants p) is
    by_copy (Some bytes) e = absurd cc

store_wants : (p : ActorState) (address width value : ℕ) (q : Want) (t u : Bool) (r : Option MemoryRange)
    → (if t && not u && not (is_some r) then window_want p (λ offset. slot_want.Store offset width value) (slot_of address) else None) ≡ Some q
    → (if not t then ends p end_.Misaligned else if u then ends p end_.TextStore else store_range p address width value r) ≡ wants p q
store_wants p address width value q false u r told = absurd cc
store_wants p address width value q true true r told = absurd cc
store_wants p address width value q true false (Some r) told = absurd cc
store_wants p address width value q true false None told = window_stores p width value (slot_of address) q told

-- the calls on streams: a buffer that fits, the fuel, and a number of a descriptor
fits_wants : (p : ActorState) (w q : Want) (t u v : Bool) → (if t && (not u && not v) then Some w else None) ≡ Some q
    → (if not t then refuses p code.Bad else if u then refuses p code.FuelShort else if v then refuses p code.NoSuch else wants p w) ≡ wants p q
fits_wants p w q false u v told = absurd cc
fits_wants p w q true true v told = absurd cc
fits_wants p w q true false true told = absurd cc
fits_wants p w q true false false told = let is : w ≡ q = cc in ap (wants p) is

-- the same tests, said with less or equal and with less
paid_tests : (p : ActorState) (fd n : ℕ) → (nat_le n p.fuel && nat_lt fd most_fds) ≡ (not (nat_lt p.fuel n) && not (nat_le most_fds fd))
paid_tests p fd n = ap (λ t. t && nat_lt fd most_fds) (not_below p.fuel n) ∙ ap (λ t. not (nat_lt p.fuel n) && t) (not_above fd)

reads_for : (p : ActorState) → (if fits_write p (a1 p) (a2 p) && (not (nat_lt p.fuel (a2 p)) && not (nat_le most_fds (a0 p))) then Some (want.Fd (a0 p) (stream_ask.Read (bits_of p (a0 p)) (a2 p))) else None) ≡ read_want p (a0 p) (a1 p) (a2 p)
reads_for p = ap (λ t. if fits_write p (a1 p) (a2 p) && t then Some (want.Fd (a0 p) (stream_ask.Read (bits_of p (a0 p)) (a2 p))) else None) (sym (paid_tests p (a0 p) (a2 p)))

appends_for : (i : Image) (p : ActorState)
    → (if fits_read i p (a1 p) (a2 p) && (not (nat_lt p.fuel (a2 p)) && not (nat_le most_fds (a0 p))) then Some (want.Fd (a0 p) (stream_ask.Append (bits_of p (a0 p)) (buffer i p (a1 p) (a2 p)))) else None)
    ≡ append_want p (a0 p) (a2 p) (buffer_bytes i p (a1 p) (a2 p))
appends_for i p = by_fit (fits_read i p (a1 p) (a2 p)) (buffer i p (a1 p) (a2 p)) ∙ ap (append_want p (a0 p) (a2 p)) (sym (buffer_is i p (a1 p) (a2 p)))
  where
    by_fit : (t : Bool) (bytes : List ℕ)
        → (if t && (not (nat_lt p.fuel (a2 p)) && not (nat_le most_fds (a0 p))) then Some (want.Fd (a0 p) (stream_ask.Append (bits_of p (a0 p)) bytes)) else None) ≡ append_want p (a0 p) (a2 p) (if t then Some bytes else None)
    by_fit false bytes = refl
    by_fit true bytes = ap (λ t. if t then Some (want.Fd (a0 p) (stream_ask.Append (bits_of p (a0 p)) bytes)) else None) (sym (paid_tests p (a0 p) (a2 p)))

close_wants : (p : ActorState) (q : Want) (v : Bool) → (if not v then Some (want.Fd (a0 p) (stream_ask.Close (bits_of p (a0 p)))) else None) ≡ Some q
    → (if v then refuses p code.NoSuch else wants p (want.Fd (a0 p) (stream_ask.Close (bits_of p (a0 p))))) ≡ wants p q
close_wants p q true told = absurd cc
close_wants p q false told = let is : want.Fd (a0 p) (stream_ask.Close (bits_of p (a0 p))) ≡ q = cc in ap (wants p) is

free_wants : (p : ActorState) (o : Option Place) (q : Want) → free_want o ≡ Some q → free_at p o ≡ wants p q
free_wants p None q told = absurd cc
free_wants p (Some x) q told = let is : want.Slot x.slot (slot_want.Sfree x.offset) ≡ q = cc in ap (wants p) is

join_wants : (p : ActorState) (q : Want) (t : Bool) → (if t then Some (want.Join (a0 p)) else None) ≡ Some q → (if t then wants p (want.Join (a0 p)) else refuses p code.NoSuch) ≡ wants p q
join_wants p q true e = let is : want.Join (a0 p) ≡ q = cc in ap (wants p) is
join_wants p q false e = absurd cc

claim_wants : (p : ActorState) (q : Want) (t : Bool) → (if t then Some (want.Slots directory_ask.Claim) else None) ≡ Some q → (if t then wants p (want.Slots directory_ask.Claim) else refuses p code.Bad) ≡ wants p q
claim_wants p q true e = let is : want.Slots directory_ask.Claim ≡ q = cc in ap (wants p) is
claim_wants p q false e = absurd cc

call_wants : (i : Image) (p : ActorState) (n : ℕ) (q : Want) → call_want i p p.hart.regs n ≡ Some q → serves i p n ≡ wants p q
unfolding serves
call_wants i p n q told = by_call (n == 2) refl (n == 3) refl (n == 6) refl (n == 15) refl (n == 16) refl (n == 17) refl told
  where
    here : (m : ℕ) → (n == m) ≡ true → serves i p m ≡ wants p q → serves i p n ≡ wants p q
    here m e is = subst (λ k. serves i p k ≡ wants p q) (sym (eqb-true n m e)) is

    by_call : (t : Bool) → (n == 2) ≡ t → (u : Bool) → (n == 3) ≡ u → (f : Bool) → (n == 6) ≡ f → (r : Bool) → (n == 15) ≡ r → (x : Bool) → (n == 16) ≡ x → (c : Bool) → (n == 17) ≡ c
        → (if t then join_want p (a0 p) else if u then claim_want (a0 p) else if f then free_want (slot_of (a0 p)) else if r then read_want p (a0 p) (a1 p) (a2 p) else if x then append_want p (a0 p) (a2 p) (buffer_bytes i p (a1 p) (a2 p)) else if c then close_want p (a0 p) else None) ≡ Some q
        → serves i p n ≡ wants p q
    by_call true e u _ f _ r _ x _ c _ is = here 2 e (join_wants p q (is_child p.unjoined (a0 p)) is)
    by_call false _ true e f _ r _ x _ c _ is = here 3 e (claim_wants p q (are_pages (a0 p)) (ap (λ t. if t then Some (want.Slots directory_ask.Claim) else None) (sym (pages_tests (a0 p))) ∙ is))
    by_call false _ false _ true e r _ x _ c _ is = here 6 e (free_wants p (slot_of (a0 p)) q is)
    by_call false _ false _ false _ true e x _ c _ is = here 15 e (fits_wants p _ q (fits_write p (a1 p) (a2 p)) (nat_lt p.fuel (a2 p)) (nat_le most_fds (a0 p)) (reads_for p ∙ is))
    by_call false _ false _ false _ false _ true e c _ is = here 16 e (fits_wants p _ q (fits_read i p (a1 p) (a2 p)) (nat_lt p.fuel (a2 p)) (nat_le most_fds (a0 p)) (appends_for i p ∙ is))
    by_call false _ false _ false _ false _ false _ true e is =
        here 17 e (close_wants p q (nat_le most_fds (a0 p)) (ap (λ t. if t then Some (want.Fd (a0 p) (stream_ask.Close (bits_of p (a0 p)))) else None) (sym (not_above (a0 p))) ∙ is))
    by_call false _ false _ false _ false _ false _ false _ is = absurd cc

need_wants : (i : Image) (ins : Instr) (p : ActorState) (h : Hart) (n : Need) (q : Want) → need_want i p n ≡ Some q → step_with_need i ins p h n ≡ wants p q
need_wants i ins p h need.Done q told = absurd cc
need_wants i ins p h (need.Load address width s) q told = load_wants i ins s p address width q _ (in_text i address width) (range_at p.memory.ranges address width) told
need_wants i ins p h (need.Store address width value) q told = store_wants p address width value q _ (in_text i address width) (range_at p.memory.ranges address width) told
need_wants i ins p h need.Call q told = call_wants i p (a7 p) q told
need_wants i ins p h need.Break q told = absurd cc
need_wants i ins p h need.JumpMisaligned q told = absurd cc

instr_wants : (i : Image) (p : ActorState) (ins : Option Instr) (q : Want) → instr_want i p ins ≡ Some q → step_with_instr i p ins ≡ wants p q
instr_wants i p None q told = absurd cc
instr_wants i p (Some ins) q told = need_wants i ins p (local ins p.hart).hart (local ins p.hart).need q told

word_wants : (i : Image) (b : ActorState) (n : ℕ) (o : Option ℕ) (q : Want) → b.fuel ≡ suc n → word_want i (record b { fuel = n }) o ≡ Some q → step_with_word i b o ≡ record b { fuel = n; phase = phase.Within q }
word_wants i b n None q has told = absurd cc
word_wants i b n (Some word) q has told =
    let left : b.fuel - 1 ≡ n = omega (arith, has) in
    ap (step_with_fuel i b word) has ∙ (ap (λ m. step_with_instr i (record b { fuel = m }) (decode word)) left ∙ instr_wants i (record b { fuel = n }) (decode word) q told)

step_wants : (i : Image) (b : ActorState) (n : ℕ) (q : Want) → b.fuel ≡ suc n → want_at i (record b { fuel = n }) ≡ Some q → step i b ≡ record b { fuel = n; phase = phase.Within q }
unfolding step
step_wants i b n q has told = word_wants i b n (fetch i b.hart.pc) q has told

pub step_comes_with : (w : WorldState) (b : ActorState) (n : ℕ) → b.fuel ≡ n → b.phase ≡ phase.Running → ComesWith (with_actor w b) b n (with_actor w (step w.image b))
step_comes_with w b zero has run = tt
step_comes_with w b (suc n) has run = λ q told.
    ap (with_actor w) (step_wants w.image b n q has told) ∙ ap (λ (as_ : List ActorState). record w { actors = as_ }) (sym (put_put w.actors b (record b { fuel = n; phase = phase.Within q }) refl))

-- ---- an event

want_asks : (w : WorldState) (b : ActorState) (N : ℕ → Type 0) (q : Want) → IsRequest N b q → AsksFor (with_actor w b) b q (event_for w.cells b q)
want_asks w b N (want.Slots directory_ask.Claim) own = (_, refl)
want_asks w b N (want.Slot slot (slot_want.Close tag)) own = (_, refl)
want_asks w b N (want.Slot slot (slot_want.Load offset width)) own = (_, refl)
want_asks w b N (want.Slot slot (slot_want.Store offset width value)) own = (_, refl)
want_asks w b N (want.Slot slot (slot_want.Smalloc tag size)) own = (_, refl)
want_asks w b N (want.Slot slot (slot_want.Sfree offset)) own = (_, refl)
want_asks w b N (want.Fd fd q) own = (_, refl)
want_asks w b N (want.Lives lives_ask.Claim) own = (_, refl)
want_asks w b N q own = absurd own

pub event_asks : (w : WorldState) (b : ActorState) (e : Event) → Happens w b e → AsksAt (with_actor w b) b b.phase e
event_asks w b e (Requested r) = subst (λ ph. AsksAt (with_actor w b) b ph e) (sym r.at) (subst (AsksFor (with_actor w b) b r.want) (sym r.is) (want_asks w b _ r.want r.own))
event_asks w b e (Joined j) = subst (λ ph. AsksAt (with_actor w b) b ph e) (sym j.at) (j.join.how, j.join.child.fuel, j.join.is)
event_asks w b e (Snaps s) = subst (λ ph. AsksAt (with_actor w b) b ph e) (sym s.at) tt
event_asks w b e (GateSnaps s) = subst (λ ph. AsksAt (with_actor w b) b ph e) (sym s.at) tt
event_asks w b e (Started s) = subst (λ ph. AsksAt (with_actor w b) b ph e) (sym s.at) tt
event_asks w b e (Opens o) = subst (λ ph. AsksAt (with_actor w b) b ph e) (sym o.at) tt
event_asks w b e (Releases r) = subst (λ ph. AsksAt (with_actor w b) b ph e) (sym r.at) tt
event_asks w b e (Numbers n) = subst (λ ph. AsksAt (with_actor w b) b ph e) (sym n.at) (subst (λ m. AsksNumber m e) (sym n.none) (_, n.is))
event_asks w b e (OpensFile f) = subst (λ ph. AsksAt (with_actor w b) b ph e) (sym f.at) (subst (λ m. AsksNumber m e) (sym f.some) tt)
event_asks w b e (LastJoined j) = subst (λ ph. AsksAt (with_actor w b) b ph e) (sym j.at) tt
event_asks w b e (Ended f) = subst (λ ph. AsksAt (with_actor w b) b ph e) (sym f.at) tt
event_asks w b e (EntersGate x) = subst (λ ph. AsksAt (with_actor w b) b ph e) (sym x.at) tt
event_asks w b e (EntersRecycled x) = subst (λ ph. AsksAt (with_actor w b) b ph e) (sym x.at) tt
event_asks w b e (LeavesGate l) = subst (λ ph. AsksAt (with_actor w b) b ph e) (sym l.at) tt
event_asks w b e (LeavesRecycled l) = subst (λ ph. AsksAt (with_actor w b) b ph e) (sym l.at) tt
