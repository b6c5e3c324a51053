-- What the calls that make and delete tags leave, read off the registers, the directory and the
-- slot: a second statement, beside the step.
use Rattle.std.specs.Prelude.{◌≡◌, ◌≢◌, ℕ, ◌*◌, Bool, true, false, [], slice_set, Option, Some, None}
use Rattle.cow_pages.specs.Copies.{Copies, copy_at, without_copy}
use Rattle.wedge_base.specs.Bytes.{zeros}
use Rattle.wedge_events.specs.Directories.{Claim, claim}
use Rattle.wedge_base.specs.Sheets.{made_tag}
use Rattle.wedge_events.specs.declared.cells.DirectoryAsk.TheVariants as directory_ask
use Rattle.wedge_events.specs.declared.cells.DirectoryReply.TheVariants as directory_reply
use Rattle.wedge_events.specs.declared.cells.SlotAsk.TheVariants as slot_ask
use Rattle.wedge_events.specs.declared.cells.SlotReply.TheVariants as slot_reply
use Rattle.wedge_events.specs.declared.cells.StreamAsk.TheVariants as stream_ask
use Rattle.wedge_events.specs.declared.events.Event.{Event}
use Rattle.wedge_events.specs.declared.events.Event.TheVariants as event
use Rattle.wedge_events.specs.declared.events.Want.TheVariants as want
use Rattle.wedge_base.specs.declared.rights.Right.TheVariants as right
use Rattle.rv_hart.specs.Local.{reg}
use Rattle.machine.specs.declared.phase.Phase.{Phase}
use Rattle.machine.specs.declared.phase.Phase.TheVariants as phase
use Rattle.machine.specs.Actors.{ActorState, right_of}
use Rattle.run_laws.specs.Allowed.{answered_hart, window_address}
use Rattle.run_laws.specs.Families.{answered_twice}
use Rattle.run_laws.specs.FileCalls.{OpensAt}
use Rattle.machine.specs.Worlds.{WorldState, put_actor}

-- the place released last, or else the least one never used, is claimed with the next number, and
-- the tag is opened there next
abbrev pub ClaimsSlot : WorldState → ActorState → Event → WorldState → Type 0
ClaimsSlot old a e new = (c : Claim) → claim old.cells.places ≡ Some c
    → (e ≡ event.Slots directory_ask.Claim (directory_reply.Claimed c.place old.cells.places.number))
    × (new ≡ record old {
      cells = record old.cells { places = c.left };
      actors = put_actor old.actors (record a { phase = phase.Opening c.place old.cells.places.number });
    })

-- copies without the one at a slot: there is none there, and each other is as before
pub record AreWithout (old : Copies) (slot : ℕ) (new : Copies) : Type 0 where
  pub gone : copy_at new slot ≡ None
  pub beside : (other : ℕ) → other ≢ slot → copy_at new other ≡ copy_at old other

-- a tag is opened in its slot with zero bytes and no blocks; its actor has made it, may store to
-- it, has no private copy there, and is answered its number and its address
abbrev pub OpensTag : WorldState → ActorState → ℕ → ℕ → Event → WorldState → Type 0
OpensTag old a slot tag e new =
    (e ≡ event.Slot slot (slot_ask.Open tag (reg a.hart.regs 10)) slot_reply.Opened)
    × (new ≡ record old {
      cells = record old.cells { slots = slice_set old.cells.slots slot (Some (record { tag = tag; bytes = zeros (reg a.hart.regs 10 * 4096); blocks = [] })) };
      actors = put_actor old.actors (record a {
        made = made_tag a.made tag slot;
        hart = answered_twice a tag (window_address slot 0);
        memory = record a.memory { copies = without_copy a.memory.copies slot };
        phase = phase.Running;
      });
    })
    × (right_of (record a { made = made_tag a.made tag slot }) tag ≡ Some right.ReadWrite)
    × AreWithout a.memory.copies slot (without_copy a.memory.copies slot)

-- the slot of a tag that was closed is released, and the call is answered 0
abbrev pub ReleasesSlot : WorldState → ActorState → ℕ → Event → WorldState → Type 0
ReleasesSlot old a slot e new =
    (e ≡ event.Slots (directory_ask.Release slot) directory_reply.Released)
    × (new.actors ≡ put_actor old.actors (record a { hart = answered_hart a 0 0; phase = phase.Running }))

-- an event that opens a tag or a stream, or claims a slot or a number, or releases one
abbrev pub is_making : Event → Bool
is_making (event.Slots q r) = true
is_making (event.Fds q r) = true
is_making (event.Fd fd (stream_ask.Open k bytes) r) = true
is_making (event.Slot slot (slot_ask.Open tag pages) r) = true
is_making e = false

abbrev pub MakesAt : WorldState → ActorState → Phase → Event → WorldState → Type 0
MakesAt old a (phase.Within (want.Slots q)) e new = ClaimsSlot old a e new
MakesAt old a (phase.Opening slot tag) e new = OpensTag old a slot tag e new
MakesAt old a (phase.Releasing slot) e new = ReleasesSlot old a slot e new
MakesAt old a (phase.OpeningFile o) e new = OpensAt old a o o.number e new
MakesAt old a p e new = is_making e ≡ false

-- tags are made by a claim and an opening, and their slots released, by the actor whose call it is,
-- and so are the descriptors of files
abbrev pub MakesTags : WorldState → ActorState → Option Event → WorldState → Type 0
MakesTags old a None new = Unit {0}
MakesTags old a (Some e) new = MakesAt old a a.phase e new
