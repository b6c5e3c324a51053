-- What each moment costs is paid.
use Rattle.std.proofs.Common.{◌≡◌, ℕ, zero, suc, ◌+◌, ◌-◌, ◌≤◌, Bool, true, false, List, refl, sym, subst, ◌∙◌, arith, ap}
use Rattle.std.specs.Prelude.{Option, Some, None, option_and_then, drop, not, nat_lt, nat_le, ◌==◌, slice_get, if◌then◌else◌}
use Rattle.wedge_base.specs.Sheets.{Draft}
use Rattle.rv_isa.specs.declared.Instr.{Instr}
use Rattle.rv_hart.specs.declared.Need.{Need}
use Rattle.rv_hart.specs.declared.Need.TheVariants as need
use Rattle.rv_hart.specs.Local.{local}
use Rattle.std.proofs.lemmas.List.{length-take}
use Rattle.cow_pages.specs.PrivateMemory.{PrivateMemory}
use Rattle.wedge_base.specs.declared.grants.GateId.{GateId}
use Rattle.wedge_events.specs.declared.cells.GateReply.TheVariants as gate_reply
use Rattle.wedge_events.specs.declared.cells.GateAsk.TheVariants as gate_ask
use Rattle.wedge_events.specs.Streams.{Stream, stream_reply as stream_reply_of}
use Rattle.wedge_base.specs.Images.{Image, fetch}
use Rattle.wedge_base.specs.declared.rights.FdBits.{FdBits}
use Rattle.wedge_events.specs.declared.events.SlotWant.TheVariants as slot_want
use Rattle.wedge_events.specs.declared.events.Want.{Want}
use Rattle.wedge_events.specs.declared.events.Want.TheVariants as want
use Rattle.wedge_events.specs.declared.events.Event.{Event}
use Rattle.wedge_events.specs.declared.events.Event.TheVariants as event
use Rattle.wedge_events.specs.declared.cells.LivesAsk.{LivesAsk}
use Rattle.wedge_events.specs.declared.cells.LivesAsk.TheVariants as lives_ask
use Rattle.wedge_events.specs.declared.cells.LivesReply.{LivesReply}
use Rattle.wedge_events.specs.declared.cells.LivesReply.TheVariants as lives_reply
use Rattle.wedge_base.specs.declared.rights.End.{End}
use Rattle.wedge_events.specs.declared.cells.DirectoryAsk.{DirectoryAsk}
use Rattle.wedge_events.specs.declared.cells.DirectoryAsk.TheVariants as directory_ask
use Rattle.wedge_events.specs.declared.cells.DirectoryReply.{DirectoryReply}
use Rattle.wedge_events.specs.declared.cells.DirectoryReply.TheVariants as directory_reply
use Rattle.wedge_events.specs.declared.cells.SlotAsk.{SlotAsk}
use Rattle.wedge_events.specs.declared.cells.SlotAsk.TheVariants as slot_ask
use Rattle.wedge_events.specs.declared.cells.SlotReply.{SlotReply}
use Rattle.wedge_events.specs.declared.cells.SlotReply.TheVariants as slot_reply
use Rattle.wedge_events.specs.declared.cells.StreamAsk.{StreamAsk}
use Rattle.wedge_events.specs.declared.cells.StreamAsk.TheVariants as stream_ask
use Rattle.rv_isa.specs.Table.{decode}
use Rattle.machine.specs.Actors.{ActorState, spends}
use Rattle.machine.specs.Opening.{FileOpening}
use Rattle.wedge_base.specs.declared.rights.StreamKind.{StreamKind}
use Rattle.wedge_events.specs.declared.cells.StreamReply.TheVariants as stream_reply
use Rattle.machine.specs.declared.phase.Phase.TheVariants as phase
use Rattle.machine.specs.Calls.{a0, a1, a2, a3, a7, path_in}
use Rattle.machine.specs.Children.{without_child}
use Rattle.machine.specs.Cells.{Cells, stream_in}
use Rattle.machine.specs.Local.{step_with_instr, step_with_fuel, step_with_word, step}
use Rattle.machine.specs.Take.{runs, answered_end, takes, has_entered}
use Rattle.machine.specs.Worlds.{WorldState}
use Rattle.run_laws.specs.Refusals.{fuel_short, root_refusal}
use Rattle.run_laws.specs.Requests.{path_at}
use Rattle.run_laws.specs.Paying.{unrefused, call_cost, need_cost, instr_cost, cost_of_word, cost_at, cost_by, given_by, brought_by, given_in}
use Rattle.machine.proofs.Resting.{root_price, call_price, need_price, instr_price, not_below, goes_executed}
use Rattle.run_laws.proofs.Buffers.{path_is}
use Rattle.cow_pages.specs.Listed.{bytes_listed}
use Rattle.run_laws.proofs.Between.{event_for, loads_fuel, number_fuel, opened_at, joined_is, snapped_is}
use Rattle.run_laws.proofs.Happening.{Happens, Requested, Joined, Snaps, GateSnaps, Started, Opens, Releases, Numbers, OpensFile, LastJoined, Ended, EntersGate, LeavesGate, EntersRecycled, LeavesRecycled}
use Rattle.run_laws.proofs.Meeting.{IsRequest}
use Rattle.run_laws.proofs.StreamCalls.{IsStreamRequest, read_cases, append_cases, close_cases}
use Rattle.machine.specs.Entrance.{Entrance}

-- ---- an instruction

root_cost_is : (a : ActorState) (path : Option (List ℕ)) (d : Option Draft) → root_price a path d ≡ unrefused (root_refusal a (a2 a) path d) (a2 a)
root_cost_is a path None = refl
root_cost_is a None (Some d) = refl
root_cost_is a (Some path) (Some d) = by_test (nat_lt a.fuel (a2 a)) (not_below a.fuel (a2 a))
  where
    by_test : (t : Bool) → nat_le (a2 a) a.fuel ≡ not t → (if t then 0 else a2 a) ≡ unrefused (if nat_le (a2 a) a.fuel then None else Some fuel_short) (a2 a)
    by_test true e = rw e refl
    by_test false e = rw e refl

call_cost_is : (i : Image) (a : ActorState) (n : ℕ) → call_price i a n ≡ call_cost i a a.hart.regs n
call_cost_is i a n = by_test (n == 12)
  where
    cost_of : Option (List ℕ) → ℕ
    cost_of path = unrefused (root_refusal a (a2 a) path (slice_get a.drafts (a0 a))) (a2 a)

    by_test : (t : Bool) → (if t then root_price a (path_in i a (a1 a) (a2 a)) (slice_get a.drafts (a0 a)) else 0) ≡ (if t then cost_of (path_at i a (a1 a) (a2 a)) else 0)
    by_test true = root_cost_is a (path_in i a (a1 a) (a2 a)) (slice_get a.drafts (a0 a)) ∙ ap cost_of (sym (path_is i a (a1 a) (a2 a)))
    by_test false = refl

need_cost_is : (i : Image) (a : ActorState) (n : Need) → need_price i a n ≡ need_cost i a n
need_cost_is i a need.Call = call_cost_is i a (a7 a)
need_cost_is i a need.Done = refl
need_cost_is i a (need.Load address width s) = refl
need_cost_is i a (need.Store address width value) = refl
need_cost_is i a need.Break = refl
need_cost_is i a need.JumpMisaligned = refl

instr_cost_is : (i : Image) (a : ActorState) (ins : Option Instr) → instr_price i a ins ≡ instr_cost i a ins
instr_cost_is i a None = refl
instr_cost_is i a (Some ins) = need_cost_is i a (local ins a.hart).need

fuelled_pays : (i : Image) (a : ActorState) (word n : ℕ) → a.fuel ≡ n → (step_with_fuel i a word n).fuel + cost_of_word i a (Some word) n ≡ a.fuel
fuelled_pays i a word zero has = omega arith
fuelled_pays i a word (suc n) has =
    let left : n ≡ a.fuel - 1 = omega (arith, has) in
    let paid : (step_with_instr i (spends a 1) (decode word)).fuel + instr_cost i (record a { fuel = n }) (decode word) ≡ n =
    subst (λ c. (step_with_instr i (spends a 1) (decode word)).fuel + c ≡ n) (instr_cost_is i (record a { fuel = n }) (decode word))
    (subst (λ m. (step_with_instr i (record a { fuel = m }) (decode word)).fuel + instr_price i (record a { fuel = n }) (decode word) ≡ n) left (goes_executed i (record a { fuel = n }) (decode word)).fuel) in
    omega (arith, paid, has)

fetched_pays : (i : Image) (a : ActorState) (o : Option ℕ) → (step_with_word i a o).fuel + cost_of_word i a o a.fuel ≡ a.fuel
fetched_pays i a None = omega arith
fetched_pays i a (Some word) = fuelled_pays i a word a.fuel refl

pub step_pays : (i : Image) (a : ActorState) → (step i a).fuel + cost_at i a + given_by a None ≡ a.fuel + brought_by None
unfolding step
step_pays i a = omega (arith, fetched_pays i a (fetch i a.hart.pc))

-- ---- an event

abbrev EventPays : Image → ActorState → Event → Type 0
EventPays i b e = (takes i b e).fuel + cost_by b e + given_by b (Some e) ≡ b.fuel + brought_by (Some e)

slot_pays : (i : Image) (b : ActorState) (slot : ℕ) (q : SlotAsk) (r : SlotReply) → EventPays i b (event.Slot slot q r)
unfolding takes
slot_pays i b slot q (slot_reply.Loaded value) = let same = loads_fuel (runs b) (option_and_then decode (fetch i b.hart.pc)) value in omega (arith, same)
slot_pays i b slot q (slot_reply.Snapped pages) = let same = snapped_is (λ x. x.fuel ≡ b.fuel) b b.phase slot (Some (bytes_listed pages)) refl (λ x. refl) (λ x. refl) (λ g. refl) in omega (arith, same)
slot_pays i b slot q slot_reply.Gone = let same = snapped_is (λ x. x.fuel ≡ b.fuel) b b.phase slot None refl (λ x. refl) (λ x. refl) (λ g. refl) in omega (arith, same)
slot_pays i b slot (slot_ask.Sfree offset live) (slot_reply.Denied tag wants) = omega arith
slot_pays i b slot (slot_ask.Open tag pages) slot_reply.Opened = omega arith
slot_pays i b slot q r = omega arith

place_pays : (i : Image) (b : ActorState) (q : DirectoryAsk) (r : DirectoryReply) → EventPays i b (event.Slots q r)
unfolding takes
place_pays i b (directory_ask.Release place) r = omega arith
place_pays i b directory_ask.Claim (directory_reply.Claimed place number) = omega arith
place_pays i b directory_ask.Claim directory_reply.Full = omega arith
place_pays i b directory_ask.Claim directory_reply.Released = omega arith

append_pays : (i : Image) (b : ActorState) (fd : ℕ) (bits : FdBits) (bytes : List ℕ) (s : Option Stream) → a2 b ≤ b.fuel
    → EventPays i b (event.Fd fd (stream_ask.Append bits bytes) (stream_reply_of s (stream_ask.Append bits bytes)))
unfolding takes
append_pays i b fd bits bytes s enough =
    append_cases (λ r. EventPays i b (event.Fd fd (stream_ask.Append bits bytes) r)) s bits bytes (omega arith) (omega arith) (omega arith) (omega (arith, enough))

read_pays : (i : Image) (b : ActorState) (fd count : ℕ) (bits : FdBits) (s : Option Stream) → count ≡ a2 b → a2 b ≤ b.fuel
    → EventPays i b (event.Fd fd (stream_ask.Read bits count) (stream_reply_of s (stream_ask.Read bits count)))
unfolding takes
read_pays i b fd count bits s is enough =
    read_cases (λ r. EventPays i b (event.Fd fd (stream_ask.Read bits count) r)) s bits count (omega arith) (omega arith) (omega arith)
    (λ x e. let less = length-take count (drop x.position x.bytes) in omega (arith, less, is, enough))

close_pays : (i : Image) (b : ActorState) (fd : ℕ) (bits : FdBits) (s : Option Stream) → EventPays i b (event.Fd fd (stream_ask.Close bits) (stream_reply_of s (stream_ask.Close bits)))
unfolding takes
close_pays i b fd bits s = close_cases (λ r. EventPays i b (event.Fd fd (stream_ask.Close bits) r)) s bits (omega arith) (λ k. omega arith) (omega arith)

stream_pays : (i : Image) (b : ActorState) (fd : ℕ) (q : StreamAsk) (s : Option Stream) → IsStreamRequest b fd q → EventPays i b (event.Fd fd q (stream_reply_of s q))
stream_pays i b fd (stream_ask.Open k bytes) s own = absurd own
stream_pays i b fd (stream_ask.Read bits count) s own = read_pays i b fd count bits s own.1 own.2
stream_pays i b fd (stream_ask.Append bits bytes) s own = append_pays i b fd bits bytes s own.1
stream_pays i b fd (stream_ask.Close bits) s own = close_pays i b fd bits s

lives_pay : (i : Image) (b : ActorState) (q : LivesAsk) (r : LivesReply) → EventPays i b (event.Lives q r)
unfolding takes
lives_pay i b (lives_ask.Release x) r = omega arith
lives_pay i b lives_ask.Claim lives_reply.Claimed = omega arith
lives_pay i b lives_ask.Claim lives_reply.Full = omega arith
lives_pay i b lives_ask.Claim lives_reply.Released = omega arith

want_pays : (i : Image) (c : Cells) (b : ActorState) (N : ℕ → Type 0) (q : Want) → IsRequest N b q → EventPays i b (event_for c b q)
want_pays i c b N (want.Slots directory_ask.Claim) own = place_pays i b _ _
want_pays i c b N (want.Slot slot (slot_want.Close tag)) own = slot_pays i b slot _ _
want_pays i c b N (want.Slot slot (slot_want.Smalloc tag size)) own = slot_pays i b slot _ _
want_pays i c b N (want.Slot slot (slot_want.Sfree offset)) own = slot_pays i b slot _ _
want_pays i c b N (want.Slot slot (slot_want.Load offset width)) own = slot_pays i b slot _ _
want_pays i c b N (want.Slot slot (slot_want.Store offset width value)) own = slot_pays i b slot _ _
want_pays i c b N (want.Fd fd q) own = stream_pays i b fd q (stream_in c fd) own
want_pays i c b N (want.Lives lives_ask.Claim) own = lives_pay i b _ _
want_pays i c b N q own = absurd own

start_pays : (i : Image) (b : ActorState) (child : List ℕ) → a3 b ≤ b.fuel → EventPays i b (event.Start child)
unfolding takes
start_pays i b child enough = omega (arith, enough)

join_pays : (i : Image) (b : ActorState) (k : ℕ) (x : End) (fuel : ℕ) → EventPays i b (event.Join k x fuel)
unfolding takes
join_pays i b k x fuel =
    let is : (answered_end (record b { fuel = b.fuel + fuel; unjoined = without_child b.unjoined k }) b.phase x).fuel ≡ b.fuel + fuel =
    joined_is (λ y. y.fuel ≡ b.fuel + fuel) (record b { fuel = b.fuel + fuel; unjoined = without_child b.unjoined k }) b.phase x refl refl in
    omega (arith, is)

enter_pays : (i : Image) (b : ActorState) (x : Entrance) (run : List ℕ) → b.phase ≡ phase.Entering x → x.gate.fuel ≤ b.fuel → EventPays i b (event.Enter run)
unfolding takes
enter_pays i b x run at enough =
    let now : (has_entered b b.phase).fuel ≡ b.fuel - x.gate.fuel = ap (λ p. (has_entered b p).fuel) at in
    let given : given_in b.phase ≡ x.gate.fuel = ap given_in at in
    omega (arith, now, given, enough)

leave_pays : (i : Image) (b : ActorState) (x : End) → EventPays i b (event.Leave x)
unfolding takes
leave_pays i b x = omega arith

recycled_enter_pays : (i : Image) (b : ActorState) (x : Entrance) (id : GateId) (run : List ℕ) (first m : PrivateMemory) → b.phase ≡ phase.Entering x → x.gate.fuel ≤ b.fuel
    → EventPays i b (event.Gate id (gate_ask.Enter run first) (gate_reply.Entered m))
unfolding takes
recycled_enter_pays i b x id run first m at enough =
    let now : (has_entered b b.phase).fuel ≡ b.fuel - x.gate.fuel = ap (λ p. (has_entered b p).fuel) at in
    let given : given_in b.phase ≡ x.gate.fuel = ap given_in at in
    omega (arith, now, given, enough)

recycled_leave_pays : (i : Image) (b : ActorState) (x : End) (id : GateId) (m : PrivateMemory) → EventPays i b (event.Gate id (gate_ask.Leave x m) gate_reply.Left)
unfolding takes
recycled_leave_pays i b x id m = omega arith

number_pays : (i : Image) (b : ActorState) (q : DirectoryAsk) (r : DirectoryReply) → EventPays i b (event.Fds q r)
number_pays i b q r = let same = number_fuel i b q r in omega (arith, same)

file_pays : (i : Image) (b : ActorState) (o : FileOpening) (fd : ℕ) (k : StreamKind) (bytes : List ℕ) → b.phase ≡ phase.OpeningFile o → a1 b ≤ b.fuel
    → EventPays i b (event.Fd fd (stream_ask.Open k bytes) stream_reply.Opened)
file_pays i b o fd k bytes at_ paid =
    let same : (takes i b (event.Fd fd (stream_ask.Open k bytes) stream_reply.Opened)).fuel ≡ b.fuel - a1 b = ap (λ (x : ActorState). x.fuel) (opened_at i b o fd (stream_ask.Open k bytes) at_) in
    omega (arith, same, paid)

pub event_pays : (w : WorldState) (b : ActorState) (e : Event) → Happens w b e → EventPays w.image b e
event_pays w b e (Requested r) = subst (EventPays w.image b) (sym r.is) (want_pays w.image w.cells b _ r.want r.own)
event_pays w b e (Joined j) = subst (EventPays w.image b) (sym j.join.is) (join_pays w.image b j.number j.join.how j.join.child.fuel)
event_pays w b e (Snaps s) = subst (EventPays w.image b) (sym s.is) (slot_pays w.image b s.grant.slot _ _)
event_pays w b e (GateSnaps s) = subst (EventPays w.image b) (sym s.is) (slot_pays w.image b s.grant.slot _ _)
event_pays w b e (Started s) = subst (EventPays w.image b) (sym s.is) (start_pays w.image b _ s.ready.enough)
event_pays w b e (Opens o) = subst (EventPays w.image b) (sym o.is) (slot_pays w.image b o.slot _ _)
event_pays w b e (Releases r) = subst (EventPays w.image b) (sym r.is) (place_pays w.image b _ _)
event_pays w b e (Numbers n) = subst (EventPays w.image b) (sym n.is) (number_pays w.image b _ _)
event_pays w b e (OpensFile f) = subst (EventPays w.image b) (sym f.is) (file_pays w.image b f.opening f.fd f.opening.kind f.opening.bytes f.at f.paid)
event_pays w b e (LastJoined j) = subst (EventPays w.image b) (sym j.join.is) (join_pays w.image b j.first.0 j.join.how j.join.child.fuel)
event_pays w b e (EntersGate x) = subst (EventPays w.image b) (sym x.is) (enter_pays w.image b x.entrance _ x.at x.may.enough)
event_pays w b e (LeavesGate l) = subst (EventPays w.image b) (sym l.is) (leave_pays w.image b l.end_)
event_pays w b e (EntersRecycled x) = subst (EventPays w.image b) (sym x.is) (recycled_enter_pays w.image b x.entrance _ _ _ _ x.at x.may.enough)
event_pays w b e (LeavesRecycled l) = subst (EventPays w.image b) (sym l.is) (recycled_leave_pays w.image b l.end_ _ _)
event_pays w b e (Ended f) = subst (EventPays w.image b) (sym f.is) (lives_pay w.image b _ _)
