-- What a turn is made of, and what its event leaves of the actor.
use Rattle.std.proofs.Common.{◌≡◌, ℕ, ◌+◌, Bool, true, false, List, [], ◌∷◌, ◌++◌, refl, sym, ap, subst, ◌∙◌}
use Rattle.std.specs.Prelude.{Option, Some, None, option_map, option_and_then, ◌-◌, if◌then◌else◌}
use Rattle.cow_pages.specs.PrivateMemory.{PrivateMemory}
use Rattle.wedge_events.specs.declared.cells.GateAsk.{GateAsk}
use Rattle.wedge_base.specs.declared.grants.GateId.{GateId}
use Rattle.wedge_events.specs.declared.cells.GateReply.TheVariants as gate_reply
use Rattle.wedge_events.specs.declared.cells.GateAsk.TheVariants as gate_ask
use Rattle.wedge_base.specs.Images.{Image, fetch}
use Rattle.wedge_events.specs.declared.events.Want.{Want}
use Rattle.wedge_events.specs.declared.events.Want.TheVariants as want
use Rattle.wedge_events.specs.declared.events.Event.{Event}
use Rattle.wedge_events.specs.declared.events.Event.TheVariants as event
use Rattle.wedge_events.specs.declared.cells.DirectoryAsk.{DirectoryAsk}
use Rattle.wedge_events.specs.declared.cells.DirectoryAsk.TheVariants as directory_ask
use Rattle.wedge_events.specs.declared.cells.DirectoryReply.{DirectoryReply}
use Rattle.wedge_events.specs.declared.cells.DirectoryReply.TheVariants as directory_reply
use Rattle.wedge_events.specs.declared.cells.SlotAsk.TheVariants as slot_ask
use Rattle.wedge_events.specs.declared.cells.SlotReply.TheVariants as slot_reply
use Rattle.rv_isa.specs.declared.Instr.{Instr}
use Rattle.rv_isa.specs.Table.{decode}
use Rattle.rv_hart.specs.declared.Need.{Need}
use Rattle.rv_hart.specs.declared.Need.TheVariants as need
use Rattle.rv_hart.specs.Local.{local}
use Rattle.wedge_events.specs.declared.cells.StreamAsk.{StreamAsk}
use Rattle.wedge_events.specs.declared.cells.StreamReply.TheVariants as stream_reply
use Rattle.wedge_events.specs.declared.cells.LivesAsk.TheVariants as lives_ask
use Rattle.wedge_events.specs.declared.cells.LivesReply.TheVariants as lives_reply
use Rattle.wedge_base.specs.declared.rights.End.{End}
use Rattle.machine.specs.declared.phase.Phase.{Phase}
use Rattle.machine.specs.declared.phase.Phase.TheVariants as phase
use Rattle.machine.specs.Actors.{ActorState, answers, answers_more, spends}
use Rattle.machine.specs.Calls.{a1, a0, draft_at, new_gate, has_gate, makes_or_waits, continue_gate}
use Rattle.machine.specs.Opening.{FileOpening}
use Rattle.wedge_base.specs.Sheets.{made_fd, Draft}
use Rattle.machine.specs.Between.{IsBetween}
use Rattle.machine.specs.Children.{without_child, child_name, with_child}
use Rattle.machine.specs.Local.{rest, end_reached}
use Rattle.machine.specs.Take.{current_want, pair, runs, loads_by, loads_at, has_snapped, has_number, has_opened_file, end_value, end_number, answered_end, takes, copied_on, has_entered, next_start}
use Rattle.machine.specs.Preparation.{Preparation}
use Rattle.cow_pages.specs.Listed.{bytes_listed}
use Rattle.wedge_events.specs.Directories.{directory_reply}
use Rattle.wedge_events.specs.Gates.{gate_reply as gate_reply_of}
use Rattle.wedge_events.specs.Lives.{lives_reply}
use Rattle.wedge_events.specs.Slots.{slot_reply as slot_reply_of}
use Rattle.wedge_events.specs.Streams.{stream_reply as stream_reply_of}
use Rattle.wedge_events.specs.Wants.{slot_ask_with}
use Rattle.wedge_base.specs.declared.rights.End.TheVariants as end_
use Rattle.machine.specs.Cells.{Cells, slot_in, stream_in, kept_in, tag_in}
use Rattle.machine.specs.Worlds.{WorldState, actor_named, join_event, event_at, apply_event, wanting, Taken}
use Rattle.callgate.specs.declared.gate.Gate.{Gate}
use Rattle.machine.specs.declared.copy_grant.CopyGrant.{CopyGrant}
use Rattle.machine.specs.Entrance.{Entrance}

-- a load that has its value leaves the actor running
loaded_by : (ins : Instr) (n : Need) (a : ActorState) (value : ℕ) → a.phase ≡ phase.Running → (loads_by ins n a value).phase ≡ phase.Running
loaded_by ins need.Done a value e = e
loaded_by ins (need.Load address width s) a value e = e
loaded_by ins (need.Store address width v) a value e = e
loaded_by ins need.Call a value e = e
loaded_by ins need.Break a value e = e
loaded_by ins need.JumpMisaligned a value e = e

pub loaded_runs : (a : ActorState) (ins : Option Instr) (value : ℕ) → a.phase ≡ phase.Running → (loads_at a ins value).phase ≡ phase.Running
loaded_runs a None value e = e
loaded_runs a (Some ins) value e = loaded_by ins (local ins a.hart).need a value e

-- what a join leaves of an actor: one whose end is decided goes on with it, and any other is answered
pub joined_is : (Q : ActorState → Type 0) (a : ActorState) (p : Phase) (e : End) → Q a → Q (answers_more a (end_value e) (end_number e)) → Q (answered_end a p e)
joined_is Q a phase.Running e own other = other
joined_is Q a (phase.Within q) e own other = other
joined_is Q a (phase.Starting pre) e own other = other
joined_is Q a (phase.MakingGate pre) e own other = other
joined_is Q a (phase.Opening slot tag) e own other = other
joined_is Q a (phase.Releasing slot) e own other = other
joined_is Q a (phase.Entering entrance) e own other = other
joined_is Q a (phase.Waiting number) e own other = other
joined_is Q a (phase.OpeningFile o) e own other = other
joined_is Q a (phase.Ending x) e own other = own
joined_is Q a (phase.Ended x) e own other = other

-- what a number that is claimed leaves of an actor: one that opens a file goes on with that, and any other runs
pub numbered_is : (Q : ActorState → Type 0) (a : ActorState) (p : Phase) (fd : ℕ) → Q (runs a) → ((o : FileOpening) → Q (record a { phase = phase.OpeningFile (record o { number = Some fd }) })) → Q (has_number a p fd)
numbered_is Q a phase.Running fd other on = other
numbered_is Q a (phase.Within q) fd other on = other
numbered_is Q a (phase.Starting pre) fd other on = other
numbered_is Q a (phase.MakingGate pre) fd other on = other
numbered_is Q a (phase.Opening s tag) fd other on = other
numbered_is Q a (phase.Releasing s) fd other on = other
numbered_is Q a (phase.Entering entrance) fd other on = other
numbered_is Q a (phase.Waiting number) fd other on = other
numbered_is Q a (phase.OpeningFile o) fd other on = on o
numbered_is Q a (phase.Ending x) fd other on = other
numbered_is Q a (phase.Ended x) fd other on = other

-- what the stream of a file that is opened leaves of it
abbrev pub opened_file : ActorState → FileOpening → ℕ → ActorState
opened_file a o fd = answers (spends (record a { made = made_fd a.made fd o.bits; labels = a.labels ++ record { number = fd; path = o.path } ∷ [] }) (a1 a)) fd

pub opened_is : (Q : ActorState → Type 0) (a : ActorState) (p : Phase) (fd : ℕ) → Q (runs a) → ((o : FileOpening) → Q (opened_file a o fd)) → Q (has_opened_file a p fd)
opened_is Q a phase.Running fd other on = other
opened_is Q a (phase.Within q) fd other on = other
opened_is Q a (phase.Starting pre) fd other on = other
opened_is Q a (phase.MakingGate pre) fd other on = other
opened_is Q a (phase.Opening s tag) fd other on = other
opened_is Q a (phase.Releasing s) fd other on = other
opened_is Q a (phase.Entering entrance) fd other on = other
opened_is Q a (phase.Waiting number) fd other on = other
opened_is Q a (phase.OpeningFile o) fd other on = on o
opened_is Q a (phase.Ending x) fd other on = other
opened_is Q a (phase.Ended x) fd other on = other

-- what the copy of a tag leaves of an actor: one that prepares a child goes on with that, one that makes a gate likewise or has made it,
-- and any other runs
pub made_is : (Q : ActorState → Type 0) (a : ActorState) (d : Draft) (p : Preparation) → ((x : Preparation) → Q (record a { phase = phase.MakingGate x })) → ((g : Gate) → Q (has_gate a g)) → Q (continue_gate a d p)
made_is Q a d p waits made = by_left p.left
  where
    by_left : (gs : List CopyGrant) → Q (makes_or_waits a d p gs)
    by_left [] = made (new_gate a d p.memory)
    by_left (g ∷ gs) = waits p

pub snapped_is : (Q : ActorState → Type 0) (a : ActorState) (p : Phase) (slot : ℕ) (bytes : Option (List ℕ)) → Q (runs a) → ((x : Preparation) → Q (record a { phase = phase.Starting x })) → ((x : Preparation) → Q (record a { phase = phase.MakingGate x })) → ((g : Gate) → Q (has_gate a g)) → Q (has_snapped a p slot bytes)
snapped_is Q a phase.Running slot bytes other on waits made = other
snapped_is Q a (phase.Within q) slot bytes other on waits made = other
snapped_is Q a (phase.Starting pre) slot bytes other on waits made = on _
snapped_is Q a (phase.MakingGate pre) slot bytes other on waits made = made_is Q a (draft_at a.drafts (a0 a)) (copied_on a pre slot bytes) waits made
snapped_is Q a (phase.Opening s tag) slot bytes other on waits made = other
snapped_is Q a (phase.Releasing s) slot bytes other on waits made = other
snapped_is Q a (phase.Entering entrance) slot bytes other on waits made = other
snapped_is Q a (phase.Waiting number) slot bytes other on waits made = other
snapped_is Q a (phase.OpeningFile o) slot bytes other on waits made = other
snapped_is Q a (phase.Ending x) slot bytes other on waits made = other
snapped_is Q a (phase.Ended x) slot bytes other on waits made = other

-- what the entry of a gate leaves of an actor: one that was about to enter it waits for its run, and any other runs
abbrev pub entered_by : ActorState → Entrance → ActorState
entered_by a x = record a { starts = next_start a; unjoined = with_child a.unjoined (next_start a) x.gate.fuel; fuel = a.fuel - x.gate.fuel; phase = phase.Waiting (next_start a) }

pub entered_is : (Q : ActorState → Type 0) (a : ActorState) (p : Phase) → Q (runs a) → ((x : Entrance) → Q (entered_by a x)) → Q (has_entered a p)
entered_is Q a phase.Running other on = other
entered_is Q a (phase.Within q) other on = other
entered_is Q a (phase.Starting pre) other on = other
entered_is Q a (phase.MakingGate pre) other on = other
entered_is Q a (phase.Opening s tag) other on = other
entered_is Q a (phase.Releasing s) other on = other
entered_is Q a (phase.OpeningFile o) other on = other
entered_is Q a (phase.Entering x) other on = on x
entered_is Q a (phase.Waiting k) other on = other
entered_is Q a (phase.Ending x) other on = other
entered_is Q a (phase.Ended x) other on = other

-- an actor that prepares a child; and one that does so, makes a gate or is between instructions
abbrev pub IsPreparing : Phase → Type 0
IsPreparing phase.Running = ⊥
IsPreparing (phase.Within q) = ⊥
IsPreparing (phase.Starting pre) = Unit {0}
IsPreparing (phase.MakingGate pre) = ⊥
IsPreparing (phase.Opening slot tag) = ⊥
IsPreparing (phase.Releasing slot) = ⊥
IsPreparing (phase.Entering entrance) = ⊥
IsPreparing (phase.Waiting number) = ⊥
IsPreparing (phase.OpeningFile o) = ⊥
IsPreparing (phase.Ending e) = ⊥
IsPreparing (phase.Ended e) = ⊥

-- an actor that makes a gate
abbrev pub IsMaking : Phase → Type 0
IsMaking phase.Running = ⊥
IsMaking (phase.Within q) = ⊥
IsMaking (phase.Starting pre) = ⊥
IsMaking (phase.MakingGate pre) = Unit {0}
IsMaking (phase.Opening slot tag) = ⊥
IsMaking (phase.Releasing slot) = ⊥
IsMaking (phase.Entering entrance) = ⊥
IsMaking (phase.Waiting number) = ⊥
IsMaking (phase.OpeningFile o) = ⊥
IsMaking (phase.Ending e) = ⊥
IsMaking (phase.Ended e) = ⊥

abbrev pub MayPrepare : Phase → Type 0
MayPrepare phase.Running = Unit {0}
MayPrepare (phase.Within q) = ⊥
MayPrepare (phase.Starting pre) = Unit {0}
MayPrepare (phase.MakingGate pre) = Unit {0}
MayPrepare (phase.Opening slot tag) = ⊥
MayPrepare (phase.Releasing slot) = ⊥
MayPrepare (phase.Entering entrance) = ⊥
MayPrepare (phase.Waiting number) = ⊥
MayPrepare (phase.OpeningFile o) = ⊥
MayPrepare (phase.Ending e) = Unit {0}
MayPrepare (phase.Ended e) = Unit {0}

-- one that claimed a number goes on with the file that it opens
abbrev pub MayNumber : ℕ → Phase → Type 0
MayNumber fd phase.Running = Unit {0}
MayNumber fd (phase.Within q) = ⊥
MayNumber fd (phase.Starting pre) = ⊥
MayNumber fd (phase.MakingGate pre) = ⊥
MayNumber fd (phase.Opening slot tag) = ⊥
MayNumber fd (phase.Releasing slot) = ⊥
MayNumber fd (phase.Entering entrance) = ⊥
MayNumber fd (phase.Waiting number) = ⊥
MayNumber fd (phase.OpeningFile o) = o.number ≡ Some fd
MayNumber fd (phase.Ending e) = ⊥
MayNumber fd (phase.Ended e) = ⊥

-- one that entered a gate waits for its run
abbrev pub MayWait : Phase → Type 0
MayWait phase.Running = Unit {0}
MayWait (phase.Within q) = ⊥
MayWait (phase.Starting pre) = ⊥
MayWait (phase.MakingGate pre) = ⊥
MayWait (phase.Opening slot tag) = ⊥
MayWait (phase.Releasing slot) = ⊥
MayWait (phase.OpeningFile o) = ⊥
MayWait (phase.Entering x) = ⊥
MayWait (phase.Waiting k) = Unit {0}
MayWait (phase.Ending e) = ⊥
MayWait (phase.Ended e) = ⊥

pub waiting_is : (P : Phase → Type 0) (p : Phase) → MayWait p → P phase.Running → ((k : ℕ) → P (phase.Waiting k)) → P p
waiting_is P phase.Running h runs waits = runs
waiting_is P (phase.Within q) h runs waits = absurd h
waiting_is P (phase.Starting pre) h runs waits = absurd h
waiting_is P (phase.MakingGate pre) h runs waits = absurd h
waiting_is P (phase.Opening slot tag) h runs waits = absurd h
waiting_is P (phase.Releasing slot) h runs waits = absurd h
waiting_is P (phase.OpeningFile o) h runs waits = absurd h
waiting_is P (phase.Entering x) h runs waits = absurd h
waiting_is P (phase.Waiting k) h runs waits = waits k
waiting_is P (phase.Ending e) h runs waits = absurd h
waiting_is P (phase.Ended e) h runs waits = absurd h

-- An event leaves the actor that did it between instructions; one that claimed a life prepares a child, which goes on with the copies of
-- tags, one that claimed a slot is about to open a tag there, one that claimed a number to open the stream of its file, one that
-- closed a tag to release its slot, and one that entered a gate waits for its run.
abbrev pub Leaves : Event → Phase → Type 0
Leaves (event.Slots directory_ask.Claim (directory_reply.Claimed place number)) p = p ≡ phase.Opening place number
Leaves (event.Fds directory_ask.Claim (directory_reply.Claimed fd number)) p = MayNumber fd p
Leaves (event.Slot slot q slot_reply.Closed) p = p ≡ phase.Releasing slot
Leaves (event.Slot slot q (slot_reply.Snapped pages)) p = MayPrepare p
Leaves (event.Slot slot q slot_reply.Gone) p = MayPrepare p
Leaves (event.Lives lives_ask.Claim lives_reply.Claimed) p = IsPreparing p
Leaves (event.Enter run) p = MayWait p
Leaves (event.Gate id (gate_ask.Enter run first) (gate_reply.Entered memory)) p = MayWait p
Leaves e p = IsBetween p

joined_between : (a : ActorState) (p : Phase) (e : End) → a.phase ≡ p → IsBetween (answered_end a p e).phase
joined_between a phase.Running e is = tt
joined_between a (phase.Within q) e is = tt
joined_between a (phase.Starting pre) e is = tt
joined_between a (phase.MakingGate pre) e is = tt
joined_between a (phase.Opening slot tag) e is = tt
joined_between a (phase.Releasing slot) e is = tt
joined_between a (phase.Entering entrance) e is = tt
joined_between a (phase.Waiting number) e is = tt
joined_between a (phase.OpeningFile o) e is = tt
joined_between a (phase.Ending x) e is = subst IsBetween (sym is) tt
joined_between a (phase.Ended x) e is = tt

pub takes_between : (i : Image) (a : ActorState) (e : Event) → Leaves e (takes i a e).phase
unfolding takes
takes_between i a (event.Slot slot q (slot_reply.Loaded value)) = subst IsBetween (sym (loaded_runs (runs a) (option_and_then decode (fetch i a.hart.pc)) value refl)) tt
takes_between i a (event.Slots (directory_ask.Release place) r) = tt
takes_between i a (event.Slots directory_ask.Claim (directory_reply.Claimed place number)) = refl
takes_between i a (event.Slots directory_ask.Claim directory_reply.Full) = tt
takes_between i a (event.Slots directory_ask.Claim directory_reply.Released) = tt
takes_between i a (event.Slot slot q slot_reply.Closed) = refl
takes_between i a (event.Slot slot q (slot_reply.Snapped pages)) = snapped_is (λ x. MayPrepare x.phase) a a.phase slot (Some (bytes_listed pages)) tt (λ x. tt) (λ x. tt) (λ g. tt)
takes_between i a (event.Slot slot q slot_reply.Gone) = snapped_is (λ x. MayPrepare x.phase) a a.phase slot None tt (λ x. tt) (λ x. tt) (λ g. tt)
takes_between i a (event.Slot slot (slot_ask.Sfree offset live) (slot_reply.Denied tag wants)) = tt
takes_between i a (event.Slot slot (slot_ask.Open tag pages) slot_reply.Opened) = tt
takes_between i a (event.Slot slot q r) = tt
takes_between i a (event.Fds (directory_ask.Release place) r) = tt
takes_between i a (event.Fds directory_ask.Claim (directory_reply.Claimed fd number)) = numbered_is (λ x. MayNumber fd x.phase) a a.phase fd tt (λ o. refl)
takes_between i a (event.Fds directory_ask.Claim directory_reply.Full) = tt
takes_between i a (event.Fds directory_ask.Claim directory_reply.Released) = tt
takes_between i a (event.Fd fd q stream_reply.Opened) = opened_is (λ x. IsBetween x.phase) a a.phase fd tt (λ o. tt)
takes_between i a (event.Fd fd q (stream_reply.Given bytes)) = tt
takes_between i a (event.Fd fd q stream_reply.Appended) = tt
takes_between i a (event.Fd fd q stream_reply.Closed) = tt
takes_between i a (event.Fd fd q stream_reply.NoSuch) = tt
takes_between i a (event.Fd fd q (stream_reply.Denied wants)) = tt
takes_between i a (event.Fd fd q stream_reply.Bad) = tt
takes_between i a (event.Lives lives_ask.Claim lives_reply.Claimed) = tt
takes_between i a (event.Lives lives_ask.Claim lives_reply.Full) = tt
takes_between i a (event.Lives lives_ask.Claim lives_reply.Released) = tt
takes_between i a (event.Lives (lives_ask.Release e) r) = tt
takes_between i a (event.Join k e fuel) = joined_between (record a { fuel = a.fuel + fuel; unjoined = without_child a.unjoined k }) a.phase e refl
takes_between i a (event.Enter run) = entered_is (λ x. MayWait x.phase) a a.phase tt (λ x. tt)
takes_between i a (event.Gate id (gate_ask.Enter run first) (gate_reply.Entered memory)) = entered_is (λ x. MayWait x.phase) a a.phase tt (λ x. tt)
takes_between i a e = tt

loaded_name : (ins : Instr) (n : Need) (a : ActorState) (value : ℕ) → (loads_by ins n a value).name ≡ a.name
loaded_name ins need.Done a value = refl
loaded_name ins (need.Load address width s) a value = refl
loaded_name ins (need.Store address width v) a value = refl
loaded_name ins need.Call a value = refl
loaded_name ins need.Break a value = refl
loaded_name ins need.JumpMisaligned a value = refl

loads_name : (a : ActorState) (ins : Option Instr) (value : ℕ) → (loads_at a ins value).name ≡ a.name
loads_name a None value = refl
loads_name a (Some ins) value = loaded_name ins (local ins a.hart).need a value

-- an event leaves the name of the actor that did it
pub takes_name : (i : Image) (b : ActorState) (e : Event) → (takes i b e).name ≡ b.name
unfolding takes
takes_name i b (event.Slot slot q (slot_reply.Loaded value)) = loads_name (runs b) (option_and_then decode (fetch i b.hart.pc)) value
takes_name i b (event.Slots (directory_ask.Release place) r) = refl
takes_name i b (event.Slots directory_ask.Claim (directory_reply.Claimed place number)) = refl
takes_name i b (event.Slots directory_ask.Claim directory_reply.Full) = refl
takes_name i b (event.Slots directory_ask.Claim directory_reply.Released) = refl
takes_name i b (event.Slot slot q (slot_reply.Snapped pages)) = snapped_is (λ x. x.name ≡ b.name) b b.phase slot (Some (bytes_listed pages)) refl (λ x. refl) (λ x. refl) (λ g. refl)
takes_name i b (event.Slot slot q slot_reply.Gone) = snapped_is (λ x. x.name ≡ b.name) b b.phase slot None refl (λ x. refl) (λ x. refl) (λ g. refl)
takes_name i b (event.Slot slot (slot_ask.Sfree offset live) (slot_reply.Denied tag wants)) = refl
takes_name i b (event.Slot slot (slot_ask.Open tag pages) slot_reply.Opened) = refl
takes_name i b (event.Slot slot q r) = refl
takes_name i b (event.Fds (directory_ask.Release place) r) = refl
takes_name i b (event.Fds directory_ask.Claim (directory_reply.Claimed fd number)) = numbered_is (λ x. x.name ≡ b.name) b b.phase fd refl (λ o. refl)
takes_name i b (event.Fds directory_ask.Claim directory_reply.Full) = refl
takes_name i b (event.Fds directory_ask.Claim directory_reply.Released) = refl
takes_name i b (event.Fd fd q stream_reply.Opened) = opened_is (λ x. x.name ≡ b.name) b b.phase fd refl (λ o. refl)
takes_name i b (event.Fd fd q (stream_reply.Given bytes)) = refl
takes_name i b (event.Fd fd q stream_reply.Appended) = refl
takes_name i b (event.Fd fd q stream_reply.Closed) = refl
takes_name i b (event.Fd fd q stream_reply.NoSuch) = refl
takes_name i b (event.Fd fd q (stream_reply.Denied wants)) = refl
takes_name i b (event.Fd fd q stream_reply.Bad) = refl
takes_name i b (event.Lives lives_ask.Claim lives_reply.Claimed) = refl
takes_name i b (event.Lives lives_ask.Claim lives_reply.Full) = refl
takes_name i b (event.Lives lives_ask.Claim lives_reply.Released) = refl
takes_name i b (event.Lives (lives_ask.Release e) r) = refl
takes_name i b (event.Join k e fuel) = joined_is (λ x. x.name ≡ b.name) (record b { fuel = b.fuel + fuel; unjoined = without_child b.unjoined k }) b.phase e refl refl
takes_name i b (event.Enter run) = entered_is (λ x. x.name ≡ b.name) b b.phase refl (λ x. refl)
takes_name i b (event.Gate id (gate_ask.Enter run first) (gate_reply.Entered memory)) = entered_is (λ x. x.name ≡ b.name) b b.phase refl (λ x. refl)
takes_name i b e = refl

-- nor its fuel, where it is a load
loaded_fuel : (ins : Instr) (n : Need) (a : ActorState) (value : ℕ) → (loads_by ins n a value).fuel ≡ a.fuel
loaded_fuel ins need.Done a value = refl
loaded_fuel ins (need.Load address width s) a value = refl
loaded_fuel ins (need.Store address width v) a value = refl
loaded_fuel ins need.Call a value = refl
loaded_fuel ins need.Break a value = refl
loaded_fuel ins need.JumpMisaligned a value = refl

pub loads_fuel : (a : ActorState) (ins : Option Instr) (value : ℕ) → (loads_at a ins value).fuel ≡ a.fuel
loads_fuel a None value = refl
loads_fuel a (Some ins) value = loaded_fuel ins (local ins a.hart).need a value

-- the claim of a number takes no fuel
pub number_fuel : (i : Image) (b : ActorState) (q : DirectoryAsk) (r : DirectoryReply) → (takes i b (event.Fds q r)).fuel ≡ b.fuel
unfolding takes
number_fuel i b (directory_ask.Release place) r = refl
number_fuel i b directory_ask.Claim (directory_reply.Claimed fd number) = numbered_is (λ x. x.fuel ≡ b.fuel) b b.phase fd refl (λ o. refl)
number_fuel i b directory_ask.Claim directory_reply.Full = refl
number_fuel i b directory_ask.Claim directory_reply.Released = refl

-- and the opening of a file's stream leaves its actor as it says
pub opened_at : (i : Image) (b : ActorState) (o : FileOpening) (fd : ℕ) (q : StreamAsk) → b.phase ≡ phase.OpeningFile o → takes i b (event.Fd fd q stream_reply.Opened) ≡ opened_file b o fd
unfolding takes
opened_at i b o fd q at_ = ap (λ p. has_opened_file b p fd) at_

-- the event of a want that is of a cell, or a start
abbrev pub event_for : Cells → ActorState → Want → Event
event_for c b (want.Slots q) = event.Slots q (directory_reply c.places q)
event_for c b (want.Slot slot q) = event.Slot slot (slot_ask_with q (pair b (tag_in c slot))) (slot_reply_of (slot_in c slot) (slot_ask_with q (pair b (tag_in c slot))))
event_for c b (want.Fds q) = event.Fds q (directory_reply c.numbers q)
event_for c b (want.Fd fd q) = event.Fd fd q (stream_reply_of (stream_in c fd) q)
event_for c b (want.Lives q) = event.Lives q (lives_reply c.lives q)
event_for c b (want.Gate id q) = event.Gate id q (gate_reply_of (kept_in c id) q)
event_for c b (want.Start child) = event.Start child
event_for c b (want.Enter run) = event.Enter run
event_for c b (want.Leave end) = event.Leave end
event_for c b q = event.Leave end_.Break

-- a join that takes place: the child is there, and has ended
pub record IsJoin (w : WorldState) (b : ActorState) (k : ℕ) (e : Event) : Type 0 where
  pub child : ActorState
  pub how : End
  pub there : actor_named w.actors (child_name b.name k) ≡ Some child
  pub ended : end_reached child.phase ≡ Some how
  pub is : e ≡ event.Join k how child.fuel

-- a recycled gate is entered while it is free
abbrev pub IsFree : Cells → GateId → GateAsk → Type 0
IsFree c id (gate_ask.Enter run first) = (kept_in c id).entered ≡ false
IsFree c id (gate_ask.Leave e memory) = Unit {0}

-- the event to which an actor comes with what it wants
abbrev pub ComesOf : WorldState → ActorState → Want → Event → Type 0
ComesOf w b (want.Slots q) e = e ≡ event_for w.cells b (want.Slots q)
ComesOf w b (want.Slot slot q) e = e ≡ event_for w.cells b (want.Slot slot q)
ComesOf w b (want.Fds q) e = e ≡ event_for w.cells b (want.Fds q)
ComesOf w b (want.Fd fd q) e = e ≡ event_for w.cells b (want.Fd fd q)
ComesOf w b (want.Lives q) e = e ≡ event_for w.cells b (want.Lives q)
ComesOf w b (want.Gate id q) e = IsFree w.cells id q × (e ≡ event_for w.cells b (want.Gate id q))
ComesOf w b (want.Start child) e = e ≡ event.Start child
ComesOf w b (want.Join k) e = IsJoin w b k e
ComesOf w b (want.Enter run) e = e ≡ event.Enter run
ComesOf w b (want.Leave end) e = e ≡ event.Leave end

join_ended : (w : WorldState) (b : ActorState) (k : ℕ) (c : ActorState) (x : Option End) (e : Event) → actor_named w.actors (child_name b.name k) ≡ Some c → end_reached c.phase ≡ x
    → option_map (λ (y : End × ℕ). event.Join k y.0 y.1) (option_map (λ y. (y, c.fuel)) x) ≡ Some e → IsJoin w b k e
join_ended w b k c None e there ended at = absurd cc
join_ended w b k c (Some x) e there ended at = record { child = c; how = x; there = there; ended = ended; is = cc }

join_comes : (w : WorldState) (b : ActorState) (k : ℕ) (o : Option ActorState) (e : Event) → actor_named w.actors (child_name b.name k) ≡ o → join_event k o ≡ Some e → IsJoin w b k e
join_comes w b k None e there at = absurd cc
join_comes w b k (Some c) e there at = join_ended w b k c (end_reached c.phase) e there refl at

free_comes : (w : WorldState) (b : ActorState) (id : GateId) (run : List ℕ) (first : PrivateMemory) (e : Event) (t : Bool) → (kept_in w.cells id).entered ≡ t
    → (if t then None else Some (event_for w.cells b (want.Gate id (gate_ask.Enter run first)))) ≡ Some e → ComesOf w b (want.Gate id (gate_ask.Enter run first)) e
free_comes w b id run first e true is at = absurd cc
free_comes w b id run first e false is at = (is, cc)

pub comes_of : (w : WorldState) (b : ActorState) (q : Want) (e : Event) → event_at w b q ≡ Some e → ComesOf w b q e
comes_of w b (want.Slots q) e at = cc
comes_of w b (want.Slot slot q) e at = cc
comes_of w b (want.Fds q) e at = cc
comes_of w b (want.Fd fd q) e at = cc
comes_of w b (want.Lives q) e at = cc
comes_of w b (want.Gate id (gate_ask.Enter run first)) e at = free_comes w b id run first e (kept_in w.cells id).entered refl at
comes_of w b (want.Gate id (gate_ask.Leave x memory)) e at = (tt, cc)
comes_of w b (want.Start child) e at = cc
comes_of w b (want.Join k) e at = join_comes w b k (actor_named w.actors (child_name b.name k)) e refl at
comes_of w b (want.Enter run) e at = cc
comes_of w b (want.Leave end) e at = cc

-- what a turn of an actor that waits for no run is made of: the actor of the name, what it wants at rest, and the event of that ask
pub record TurnParts (w : WorldState) (name : List ℕ) (e : Event) (new : WorldState) : Type 0 where
  pub actor : ActorState
  pub named : actor_named w.actors name ≡ Some actor
  pub want : Want
  pub wants : current_want (rest w.image actor) ≡ Some want
  pub comes : event_at w (rest w.image actor) want ≡ Some e
  pub new_is : new ≡ (apply_event w (rest w.image actor) e).world

parts_event : (w : WorldState) (name : List ℕ) (a : ActorState) (q : Want) (o : Option Event) (e : Event) (new : WorldState)
    → actor_named w.actors name ≡ Some a → current_want (rest w.image a) ≡ Some q → event_at w (rest w.image a) q ≡ o
    → option_map (apply_event w (rest w.image a)) o ≡ Some (record { event = e; world = new }) → TurnParts w name e new
parts_event w name a q None e new named wants at t = absurd cc
parts_event w name a q (Some f) e new named wants at t =
    let is : apply_event w (rest w.image a) f ≡ record { event = e; world = new } = cc in
    let same : f ≡ e = ap (λ (x : Taken). x.event) is in
    record {
      actor = a;
      named = named;
      want = q;
      wants = wants;
      comes = at ∙ ap (λ (x : Event). Some x) same;
      new_is = ap (λ (x : Taken). x.world) (sym is) ∙ ap (λ (x : Event). (apply_event w (rest w.image a) x).world) same;
    }

pub parts_wanting : (w : WorldState) (name : List ℕ) (a : ActorState) (q : Option Want) (e : Event) (new : WorldState)
    → actor_named w.actors name ≡ Some a → current_want (rest w.image a) ≡ q → wanting w (rest w.image a) q ≡ Some (record { event = e; world = new }) → TurnParts w name e new
parts_wanting w name a None e new named wants t = absurd cc
parts_wanting w name a (Some q) e new named wants t = parts_event w name a q (event_at w (rest w.image a) q) e new named wants refl t
