-- What the call that opens a file leaves, once it is allowed: read off the registers, the directory
-- of descriptors and the stream, a second statement beside the step.
use Rattle.std.specs.Prelude.{◌≡◌, ℕ, ◌-◌, true, false, List, [], ◌∷◌, ◌++◌, slice_set, Option, Some, None}
use Rattle.wedge_events.specs.Directories.{Claim, claim}
use Rattle.wedge_base.specs.Images.{Image}
use Rattle.wedge_base.specs.Rights.{bits_within}
use Rattle.wedge_base.specs.declared.image.FileEntry.{FileEntry}
use Rattle.wedge_base.specs.declared.rights.FdBits.{FdBits}
use Rattle.wedge_base.specs.Sheets.{made_fd}
use Rattle.wedge_events.specs.declared.cells.DirectoryAsk.TheVariants as directory_ask
use Rattle.wedge_events.specs.declared.cells.DirectoryReply.TheVariants as directory_reply
use Rattle.wedge_events.specs.declared.cells.StreamAsk.TheVariants as stream_ask
use Rattle.wedge_events.specs.declared.cells.StreamReply.TheVariants as stream_reply
use Rattle.wedge_events.specs.declared.events.Event.{Event}
use Rattle.wedge_events.specs.declared.events.Event.TheVariants as event
use Rattle.rv_hart.specs.Local.{reg}
use Rattle.machine.specs.declared.phase.Phase.{Phase}
use Rattle.machine.specs.declared.phase.Phase.TheVariants as phase
use Rattle.machine.specs.Actors.{ActorState, bits_of}
use Rattle.run_laws.specs.Allowed.{answered_hart, lacks, is_refused, opened_as}
use Rattle.machine.specs.Cells.{Cells}
use Rattle.run_laws.specs.Requests.{Opens, request_at}
use Rattle.machine.specs.Opening.{FileOpening}
use Rattle.machine.specs.Worlds.{WorldState, put_actor}

-- the least number never used is claimed for the descriptor, and the stream of the file is opened
-- there next
abbrev pub ClaimsNumber : WorldState → ActorState → FileOpening → Event → WorldState → Type 0
ClaimsNumber old a o e new = (c : Claim) → claim old.cells.numbers ≡ Some c
    → (e ≡ event.Fds directory_ask.Claim (directory_reply.Claimed c.place old.cells.numbers.number))
    × (new ≡ record old {
      cells = record old.cells { numbers = c.left };
      actors = put_actor old.actors (record a { phase = phase.OpeningFile (record o { number = Some c.place }) });
    })

-- The stream is opened on its number with the bytes of the file, at its first byte. Its actor has
-- made the descriptor with the bits that it asked for, which it then has; it has opened it under
-- the path, pays a unit of fuel for each byte of the path's text, and is answered the number.
abbrev pub OpensFile : WorldState → ActorState → FileOpening → ℕ → Event → WorldState → Type 0
OpensFile old a o fd e new =
    (e ≡ event.Fd fd (stream_ask.Open o.kind o.bytes) stream_reply.Opened)
    × (new ≡ record old {
      cells = record old.cells { streams = slice_set old.cells.streams fd (Some (record { kind = o.kind; bytes = o.bytes; position = 0; live = true })) };
      actors = put_actor old.actors (record a {
        made = made_fd a.made fd o.bits;
        labels = a.labels ++ record { number = fd; path = o.path } ∷ [];
        hart = answered_hart a fd 0;
        fuel = a.fuel - reg a.hart.regs 11;
        phase = phase.Running;
      });
    })
    × (bits_within o.bits (bits_of (record a { made = made_fd a.made fd o.bits }) fd) ≡ true)

-- Whoever is opening a file, before a number is claimed for it and after, does so by a call that its
-- rights allow and that nothing else refuses: what it opens is the file of the call's path, with its
-- kind and its bytes, and with the bits that the call asks for.
pub record IsAllowedOpening (i : Image) (c : Cells) (a : ActorState) (o : FileOpening) : Type 0 where
  pub path : List ℕ
  pub file : FileEntry
  pub bits : FdBits
  pub asked : request_at i c a ≡ Some (Opens path file bits)
  pub allowed : lacks a (Opens path file bits) ≡ None
  pub passed : is_refused a (Opens path file bits) ≡ false
  pub is : o ≡ record (opened_as path file bits) { number = o.number }

abbrev pub OpeningAllowed : WorldState → ActorState → Phase → Type 0
OpeningAllowed old a (phase.OpeningFile o) = IsAllowedOpening old.image old.cells a o
OpeningAllowed old a p = Unit {0}

abbrev pub OpensByRight : WorldState → ActorState → Option Event → Type 0
OpensByRight old a None = Unit {0}
OpensByRight old a (Some e) = OpeningAllowed old a a.phase

abbrev pub OpensAt : WorldState → ActorState → FileOpening → Option ℕ → Event → WorldState → Type 0
OpensAt old a o None e new = ClaimsNumber old a o e new
OpensAt old a o (Some fd) e new = OpensFile old a o fd e new
