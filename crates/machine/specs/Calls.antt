-- The service calls: what the actor itself decides, up to the event that a call wants.
use Rattle.std.specs.Prelude.{ℕ, ◌+◌, ◌==◌, Bool, true, false, not, ◌&&◌, nat_lt, nat_le, List, [], ◌∷◌, ◌++◌, length, slice_get, slice_set, find, Option, Some, None, is_none, unwrap_or, if◌then◌else◌, option_map}
use Rattle.wedge_base.specs.Images.{Image, most_pages, slot_of, begins_at}
use Rattle.wedge_base.specs.Maps.{has}
use Rattle.wedge_base.specs.Paths.{resolve}
use Rattle.wedge_base.specs.Rights.{at_least, read_bit, append_bit}
use Rattle.wedge_base.specs.Services.{service_number}
use Rattle.wedge_base.specs.declared.service.Service.TheVariants as service
use Rattle.wedge_base.specs.Files.{may_open}
use Rattle.wedge_base.specs.Names.{same, most_parts}
use Rattle.wedge_base.specs.Sheets.{Draft, empty_draft, takes_tag, takes_fd, takes_gate, with_tag, with_fd, with_gate, first_excess, sheet_of_draft, made_gate, lent_to}
use Rattle.wedge_events.specs.Streams.{most_fds}
use Rattle.wedge_events.specs.declared.cells.LivesAsk.TheVariants as lives_ask
use Rattle.wedge_base.specs.declared.address.Place.{Place}
use Rattle.wedge_events.specs.declared.cells.DirectoryAsk.TheVariants as directory_ask
use Rattle.wedge_events.specs.declared.events.SlotWant.TheVariants as slot_want
use Rattle.wedge_base.specs.declared.rights.Denial.{Denial}
use Rattle.wedge_base.specs.declared.rights.Denial.TheVariants as denial
use Rattle.wedge_base.specs.declared.rights.FdBits.{FdBits}
use Rattle.wedge_base.specs.declared.image.FileEntry.{FileEntry}
use Rattle.wedge_base.specs.declared.grants.GateKind.{GateKind}
use Rattle.wedge_base.specs.declared.grants.GateKind.TheVariants as gate_kind
use Rattle.wedge_base.specs.declared.rights.StreamKind.{StreamKind}
use Rattle.wedge_base.specs.declared.rights.StreamKind.TheVariants as kind
use Rattle.wedge_base.specs.declared.rights.Right.{Right}
use Rattle.wedge_base.specs.declared.rights.Right.TheVariants as right
use Rattle.wedge_base.specs.declared.rights.Code.TheVariants as code
use Rattle.wedge_base.specs.declared.rights.End.TheVariants as end_
use Rattle.wedge_events.specs.declared.events.Want.TheVariants as want
use Rattle.wedge_events.specs.declared.cells.StreamAsk.TheVariants as stream_ask
use Rattle.callgate.specs.declared.gate.Gate.{Gate}
use Rattle.cow_pages.specs.PrivateMemory.{PrivateMemory}
use Rattle.rv_hart.specs.Local.{reg}
use Rattle.machine.specs.Actors.{ActorState, pristine, right_of, bits_of, slot_held, answers, refuses, denies, ends, wants, spends, gate_held}
use Rattle.machine.specs.Children.{is_child}
use Rattle.machine.specs.CopyGrant.{copy_grants}
use Rattle.machine.specs.Preparation.{Preparation, prepare_copies}
use Rattle.machine.specs.Opening.{FileOpening}
use Rattle.machine.specs.declared.copy_grant.CopyGrant.{CopyGrant}
use Rattle.machine.specs.declared.phase.Phase.TheVariants as phase
use Rattle.machine.specs.Accesses.{fits_read, fits_write, buffer}
use Rattle.machine.specs.Entering.{sheet_lent, excess_lent, may_lend}
use Rattle.machine.specs.Entrance.{Entrance}

-- the arguments of a call, and its number
abbrev pub a0 : ActorState → ℕ
a0 a = reg a.hart.regs 10

abbrev pub a1 : ActorState → ℕ
a1 a = reg a.hart.regs 11

abbrev pub a2 : ActorState → ℕ
a2 a = reg a.hart.regs 12

abbrev pub a3 : ActorState → ℕ
a3 a = reg a.hart.regs 13

abbrev pub a4 : ActorState → ℕ
a4 a = reg a.hart.regs 14

abbrev pub a7 : ActorState → ℕ
a7 a = reg a.hart.regs 17

-- exit: value
abbrev pub exit : ActorState → ActorState
exit a = ends a (end_.Exited (a0 a))

-- ---- streams: of the tests of these calls the buffer, the fuel and a number of 1,024 or more are
-- the actor's own, in this order; all else is decided at the event

-- fd_read: descriptor, pointer, length
abbrev pub fd_read : ActorState → ActorState
fd_read a =
    if not (fits_write a (a1 a) (a2 a)) then refuses a code.Bad
    else if nat_lt a.fuel (a2 a) then refuses a code.FuelShort
    else if nat_le most_fds (a0 a) then refuses a code.NoSuch
    else wants a (want.Fd (a0 a) (stream_ask.Read (bits_of a (a0 a)) (a2 a)))

-- fd_append: descriptor, pointer, length
abbrev pub fd_append : Image → ActorState → ActorState
fd_append i a =
    if not (fits_read i a (a1 a) (a2 a)) then refuses a code.Bad
    else if nat_lt a.fuel (a2 a) then refuses a code.FuelShort
    else if nat_le most_fds (a0 a) then refuses a code.NoSuch
    else wants a (want.Fd (a0 a) (stream_ask.Append (bits_of a (a0 a)) (buffer i a (a1 a) (a2 a))))

-- fd_close: descriptor
abbrev pub fd_close : ActorState → ActorState
fd_close a =
    if nat_le most_fds (a0 a) then refuses a code.NoSuch
    else wants a (want.Fd (a0 a) (stream_ask.Close (bits_of a (a0 a))))

-- ---- files

-- the path that a buffer holds, under the root directory of its actor; none where the buffer does
-- not fit or holds no path
abbrev pub path_in : Image → ActorState → ℕ → ℕ → Option (List ℕ)
path_in i a pointer n = if fits_read i a pointer n then resolve a.sheet.root (buffer i a pointer n) else None

-- the file of a path
abbrev pub file_at : Image → List ℕ → Option FileEntry
file_at i path = find (λ f. same f.path path) i.files

-- the bits that an argument asks for: 1 to read, 2 to append
abbrev pub mode_asked : ℕ → Option FdBits
mode_asked n =
    if n == 1 then Some read_bit
    else if n == 2 then Some append_bit
    else None

-- a source is opened to be read, and an append stream to be appended to
abbrev pub suits : StreamKind → FdBits → Bool
suits kind.Source b = b.read
suits kind.Append b = b.append

-- a file as it is opened: a number is claimed for its descriptor first, and then its stream is
-- opened
abbrev pub opening_of : List ℕ → FileEntry → FdBits → FileOpening
opening_of path f b = record { path = path; kind = f.kind; bytes = f.content; bits = b; number = None }

-- file_open: pointer, length, bits
abbrev pub open_file : ActorState → List ℕ → FdBits → Option FileEntry → ActorState
open_file a path b None = refuses a code.NoSuch
open_file a path b (Some f) =
    if not (may_open a.sheet.user f b) then denies a (denial.File path)
    else if not (suits f.kind b) then refuses a code.Bad
    else record a { phase = phase.OpeningFile (opening_of path f b) }

abbrev pub open_path : Image → ActorState → Option FdBits → Option (List ℕ) → ActorState
open_path i a None path = refuses a code.Bad
open_path i a (Some b) None = refuses a code.Bad
open_path i a (Some b) (Some path) = if nat_lt a.fuel (a1 a) then refuses a code.FuelShort else open_file a path b (file_at i path)

abbrev pub file_open : Image → ActorState → ActorState
file_open i a = open_path i a (mode_asked (a2 a)) (path_in i a (a0 a) (a1 a))

-- ---- sthreads

abbrev pub is_procedure : Image → ℕ → Bool
is_procedure i address = begins_at i.procedures address

-- sthread_create: draft, entry, argument, fuel. After the denial are tested: that the name has room
-- for one more part, and that the fuel is there. Then a life is claimed.
abbrev pub create_allowed : ActorState → ActorState
create_allowed a =
    if nat_le most_parts (length a.name) then refuses a code.Deep
    else if nat_lt a.fuel (a3 a) then refuses a code.FuelShort
    else wants a (want.Lives lives_ask.Claim)

abbrev pub create_checked : ActorState → Option Denial → ActorState
create_checked a (Some d) = denies a d
create_checked a None = create_allowed a

abbrev pub create_with : Image → ActorState → Option Draft → ActorState
create_with i a None = refuses a code.NoSuch
create_with i a (Some d) = if not (is_procedure i (a1 a)) then refuses a code.Bad else create_checked a (first_excess a.sheet a.made d)

abbrev pub create : Image → ActorState → ActorState
create i a = create_with i a (slice_get a.drafts (a0 a))

-- sthread_join: child
abbrev pub join : ActorState → ActorState
join a = if is_child a.unjoined (a0 a) then wants a (want.Join (a0 a)) else refuses a code.NoSuch

-- ---- tags

-- a tag has 1 to 16 pages
abbrev pub are_pages : ℕ → Bool
are_pages n = not (n == 0) && nat_le n most_pages

-- tag_new: pages. A slot is claimed first, and the tag is opened there next.
abbrev pub tag_new : ActorState → ActorState
tag_new a = if are_pages (a0 a) then wants a (want.Slots directory_ask.Claim) else refuses a code.Bad

-- tag_delete: tag. It is closed first, and its slot is released next.
abbrev pub tag_delete : ActorState → ActorState
tag_delete a =
    if has a.made.tags (a0 a) then wants a (want.Slot (slot_held a (a0 a)) (slot_want.Close (a0 a)))
    else denies a (denial.NotMaker (a0 a))

-- smalloc: tag, size. The right is checked here, before the tag is looked for.
abbrev pub smalloc : ActorState → ActorState
smalloc a =
    if a1 a == 0 then refuses a code.Bad
    else if at_least (right_of a (a0 a)) right.ReadWrite then wants a (want.Slot (slot_held a (a0 a)) (slot_want.Smalloc (a0 a) (a1 a)))
    else denies a (denial.Tag (a0 a) right.ReadWrite)

-- sfree: address
abbrev pub free_at : ActorState → Option Place → ActorState
free_at a None = refuses a code.Bad
free_at a (Some p) = wants a (want.Slot p.slot (slot_want.Sfree p.offset))

abbrev pub sfree : ActorState → ActorState
sfree a = free_at a (slot_of (a0 a))

-- ---- drafts: these calls are no events, and nothing is checked before a draft is used

abbrev pub most_drafts : ℕ
most_drafts = 64

-- an actor with a new draft after its others, and with this one in place of the one of that number
abbrev pub with_new_draft : ActorState → ActorState
with_new_draft a = record a { drafts = a.drafts ++ empty_draft ∷ [] }

abbrev pub with_draft : ActorState → ℕ → Draft → ActorState
with_draft a n d = record a { drafts = slice_set a.drafts n d }

-- sc_new: its value is the number of the draft
abbrev pub sc_new : ActorState → ActorState
sc_new a = if nat_le most_drafts (length a.drafts) then refuses a code.Full else answers (with_new_draft a) (length a.drafts)

-- the right that an argument asks for: 1 for a private copy, 2 to read, 3 to read and to write
abbrev pub right_asked : ℕ → Option Right
right_asked n =
    if n == 1 then Some right.Cow
    else if n == 2 then Some right.Read
    else if n == 3 then Some right.ReadWrite
    else None

-- the bits: 1 to read, 2 to append, and 3 for both
abbrev pub read_append_bits : Bool → Bool → FdBits
read_append_bits read append = record { read = read; append = append }

abbrev pub bits_asked : ℕ → Option FdBits
bits_asked n =
    if n == 1 then Some (read_append_bits true false)
    else if n == 2 then Some (read_append_bits false true)
    else if n == 3 then Some (read_append_bits true true)
    else None

-- sc_mem_add: draft, tag, right
abbrev pub add_right : ActorState → Draft → Option Right → ActorState
add_right a d None = refuses a code.Bad
add_right a d (Some r) = if takes_tag d (a1 a) then answers (with_draft a (a0 a) (with_tag d (a1 a) r)) 0 else refuses a code.Full

abbrev pub add_right_to : ActorState → Option Draft → ActorState
add_right_to a None = refuses a code.NoSuch
add_right_to a (Some d) = add_right a d (right_asked (a2 a))

abbrev pub sc_mem_add : ActorState → ActorState
sc_mem_add a = add_right_to a (slice_get a.drafts (a0 a))

-- sc_fd_add: draft, descriptor, bits
abbrev pub add_bits : ActorState → Draft → Option FdBits → ActorState
add_bits a d None = refuses a code.Bad
add_bits a d (Some b) = if takes_fd d (a1 a) then answers (with_draft a (a0 a) (with_fd d (a1 a) b)) 0 else refuses a code.Full

abbrev pub add_bits_to : ActorState → Option Draft → ActorState
add_bits_to a None = refuses a code.NoSuch
add_bits_to a (Some d) = add_bits a d (bits_asked (a2 a))

abbrev pub sc_fd_add : ActorState → ActorState
sc_fd_add a = add_bits_to a (slice_get a.drafts (a0 a))

-- sc_cgate_add: draft, entry
abbrev pub add_gate : Image → ActorState → Draft → ActorState
add_gate i a d =
    if not (is_procedure i (a1 a)) then refuses a code.Bad
    else if takes_gate d (a1 a) then answers (with_draft a (a0 a) (with_gate d (a1 a))) 0
    else refuses a code.Full

abbrev pub add_gate_to : Image → ActorState → Option Draft → ActorState
add_gate_to i a None = refuses a code.NoSuch
add_gate_to i a (Some d) = add_gate i a d

abbrev pub sc_cgate_add : Image → ActorState → ActorState
sc_cgate_add i a = add_gate_to i a (slice_get a.drafts (a0 a))

-- a draft with a user, and with a root directory, in place of those that it had
abbrev pub with_user : Draft → ℕ → Draft
with_user d user = record d { user = Some user }

abbrev pub with_root : Draft → List ℕ → Draft
with_root d root = record d { root = Some root }

-- sc_user: draft, user
abbrev pub set_user : ActorState → Option Draft → ActorState
set_user a None = refuses a code.NoSuch
set_user a (Some d) = answers (with_draft a (a0 a) (with_user d (a1 a))) 0

abbrev pub sc_user : ActorState → ActorState
sc_user a = set_user a (slice_get a.drafts (a0 a))

-- sc_root: draft, pointer, length. Each byte of the path takes a unit of fuel.
abbrev pub put_root : ActorState → Draft → Option (List ℕ) → ActorState
put_root a d None = refuses a code.Bad
put_root a d (Some path) =
    if nat_lt a.fuel (a2 a) then refuses a code.FuelShort
    else answers (spends (with_draft a (a0 a) (with_root d path)) (a2 a)) 0

abbrev pub set_root : ActorState → Option (List ℕ) → Option Draft → ActorState
set_root a path None = refuses a code.NoSuch
set_root a path (Some d) = put_root a d path

abbrev pub sc_root : Image → ActorState → ActorState
sc_root i a = set_root a (path_in i a (a1 a) (a2 a)) (slice_get a.drafts (a0 a))

-- ---- gates

-- the draft of a number, which a call has found before
abbrev pub draft_at : List Draft → ℕ → Draft
draft_at ds n = unwrap_or (slice_get ds n) empty_draft

-- the kind that an argument asks for: 0 for a fresh gate, 1 for a recycled one
abbrev pub kind_asked : ℕ → GateKind
kind_asked n = if n == 0 then gate_kind.Fresh else gate_kind.Recycled

-- the gate that a call makes of its draft, whose runs begin with this private memory
abbrev pub new_gate : ActorState → Draft → PrivateMemory → Gate
new_gate a d m = record {
  id = record { maker = a.name; number = a.made.count + 1 };
  entry = a1 a;
  sheet = sheet_of_draft a.sheet a.made d;
  argument = a2 a;
  fuel = a3 a;
  kind = kind_asked (a4 a);
  memory = m;
}

-- a gate is made: its maker knows it, and holds it at its entry, in place of one that it made there
-- before
abbrev pub has_gate : ActorState → Gate → ActorState
has_gate a g = answers (record a { made = made_gate a.made g.entry g.id; gates = a.gates ++ g ∷ [] }) 0

-- the gate is made once it has all its copies; until then the first that is left is to be made of
-- its tag
abbrev pub makes_or_waits : ActorState → Draft → Preparation → List CopyGrant → ActorState
makes_or_waits a d p [] = has_gate a (new_gate a d p.memory)
makes_or_waits a d p (g ∷ gs) = record a { phase = phase.MakingGate p }

abbrev pub continue_gate : ActorState → Draft → Preparation → ActorState
continue_gate a d p = makes_or_waits a d p p.left

-- cgate_make: draft, entry, argument, fuel, kind. The draft has no user and no root directory.
abbrev pub may_be_gate : Image → ActorState → Draft → Bool
may_be_gate i a d = is_procedure i (a1 a) && (nat_le (a4 a) 1 && (is_none d.user && is_none d.root))

abbrev pub make_checked : Image → ActorState → Draft → Option Denial → ActorState
make_checked i a d (Some x) = denies a x
make_checked i a d None = continue_gate a d (prepare_copies a.sheet a.made a.memory.copies (pristine i) (copy_grants (sheet_of_draft a.sheet a.made d).tags))

abbrev pub make_with : Image → ActorState → Option Draft → ActorState
make_with i a None = refuses a code.NoSuch
make_with i a (Some d) = if not (may_be_gate i a d) then refuses a code.Bad else make_checked i a d (first_excess a.sheet a.made d)

abbrev pub cgate_make : Image → ActorState → ActorState
cgate_make i a = make_with i a (slice_get a.drafts (a0 a))

-- the number that lends nothing
abbrev pub no_draft : ℕ
no_draft = 4294967295

-- what an argument says is lent: nothing, or the draft of a number, if there is one
abbrev pub lent_asked : List Draft → ℕ → Option (Option Draft)
lent_asked ds n = if n == no_draft then Some None else option_map (λ d. Some d) (slice_get ds n)

-- The entrance to a gate: its run has the gate's sheet, with what is lent.
abbrev pub entrance_of : ActorState → Gate → Option Draft → Entrance
entrance_of a g lent = record { gate = g; sheet = lent_to g.sheet (sheet_lent a lent) }

-- cgate: entry, argument, lent. After the denial are tested: that the name has room for one more
-- part, and that the gate's fuel is there.
abbrev pub enter_allowed : ActorState → Gate → Option Draft → ActorState
enter_allowed a g lent =
    if nat_le most_parts (length a.name) then refuses a code.Deep
    else if nat_lt a.fuel g.fuel then refuses a code.FuelShort
    else record a { phase = phase.Entering (entrance_of a g lent) }

abbrev pub enter_checked : ActorState → Gate → Option Draft → Option Denial → ActorState
enter_checked a g lent (Some d) = denies a d
enter_checked a g lent None = enter_allowed a g lent

abbrev pub enter_lending : ActorState → Gate → Option (Option Draft) → ActorState
enter_lending a g None = refuses a code.NoSuch
enter_lending a g (Some lent) = if not (may_lend lent) then refuses a code.Bad else enter_checked a g lent (excess_lent a lent)

abbrev pub enter_held : ActorState → Option Gate → ActorState
enter_held a None = denies a (denial.Gate (a0 a))
enter_held a (Some g) = enter_lending a g (lent_asked a.drafts (a2 a))

abbrev pub cgate : ActorState → ActorState
cgate a = enter_held a (gate_held a (a0 a))

-- a call on drafts by its number; any other number is refused
abbrev pub draft_call : Image → ActorState → ℕ → ActorState
draft_call i a n =
    if n == service_number service.ScNew then sc_new a
    else if n == service_number service.ScMemAdd then sc_mem_add a
    else if n == service_number service.ScFdAdd then sc_fd_add a
    else if n == service_number service.ScCgateAdd then sc_cgate_add i a
    else if n == service_number service.ScUser then sc_user a
    else if n == service_number service.ScRoot then sc_root i a
    else refuses a code.Bad

-- ---- a call by its number
unfoldable pub serves : Image → ActorState → ℕ → ActorState
serves i a n =
    if n == service_number service.Exit then exit a
    else if n == service_number service.SthreadCreate then create i a
    else if n == service_number service.SthreadJoin then join a
    else if n == service_number service.TagNew then tag_new a
    else if n == service_number service.TagDelete then tag_delete a
    else if n == service_number service.Smalloc then smalloc a
    else if n == service_number service.Sfree then sfree a
    else if n == service_number service.CgateMake then cgate_make i a
    else if n == service_number service.Cgate then cgate a
    else if n == service_number service.FdRead then fd_read a
    else if n == service_number service.FdAppend then fd_append i a
    else if n == service_number service.FdClose then fd_close a
    else if n == service_number service.FileOpen then file_open i a
    else draft_call i a n
