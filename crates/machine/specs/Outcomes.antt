-- What a run ends with: a line for each actor that has ended, and the bytes of each append stream.
use Rattle.std.specs.Prelude.{ℕ, ◌+◌, ◌==◌, List, [], ◌∷◌, ◌++◌, Option, Some, None, slice_get, unwrap_or, option_map, if◌then◌else◌}
use Rattle.std.specs.Ordering.{nat_cmp, is_lt}
use Rattle.std.specs.Cmp.Lexicographic.{slice_cmp}
use Rattle.wedge_base.specs.Images.{Image, procedure_name}
use Rattle.wedge_events.specs.Streams.{Stream}
use Rattle.wedge_base.specs.declared.rights.StreamKind.TheVariants as kind
use Rattle.wedge_base.specs.declared.rights.StreamKind.{StreamKind}
use Rattle.wedge_base.specs.declared.rights.End.{End}
use Rattle.wedge_base.specs.declared.outcome.ActorLine.{ActorLine}
use Rattle.wedge_base.specs.declared.outcome.StreamLine.{StreamLine}
use Rattle.wedge_base.specs.declared.outcome.Outcome.{Outcome}
use Rattle.machine.specs.declared.opening.StreamLabel.{StreamLabel}
use Rattle.machine.specs.declared.phase.Phase.{Phase}
use Rattle.machine.specs.declared.phase.Phase.TheVariants as phase
use Rattle.machine.specs.Actors.{ActorState}
use Rattle.machine.specs.Worlds.{WorldState}

-- the line of an actor that ended so
abbrev pub line_of : Image → ActorState → End → ActorLine
line_of i a e = record { name = a.name; compartment = procedure_name i a.compartment; end = e; pc = a.hart.pc; fuel = a.fuel; denials = a.denials }

-- a line inserted by its name: lines are sorted by name
abbrev pub with_line : ActorLine → List ActorLine → List ActorLine
with_line l [] = l ∷ []
with_line l (m ∷ ms) = if is_lt (slice_cmp nat_cmp l.name m.name) then l ∷ m ∷ ms else m ∷ with_line l ms

abbrev pub with_actor_line : Image → ActorState → Phase → List ActorLine → List ActorLine
with_actor_line i a (phase.Ended e) ls = with_line (line_of i a e) ls
with_actor_line i a p ls = ls

abbrev pub lines_of : Image → List ActorState → List ActorLine
lines_of i [] = []
lines_of i (a ∷ as_) = with_actor_line i a a.phase (lines_of i as_)

-- the name under which a descriptor was declared, or else the path under which an actor opened it
abbrev pub labels_of : List ActorState → List StreamLabel
labels_of [] = []
labels_of (a ∷ as_) = a.labels ++ labels_of as_

abbrev pub path_of : List StreamLabel → ℕ → List ℕ
path_of [] n = []
path_of (l ∷ ls) n = if l.number == n then l.path else path_of ls n

abbrev pub label_of : Image → List StreamLabel → ℕ → List ℕ
label_of i labels n = unwrap_or (option_map (λ f. f.name) (slice_get i.fds n)) (path_of labels n)

-- an append stream has a line, a source none, and what was never opened none
abbrev pub with_kind : Image → List StreamLabel → ℕ → Stream → StreamKind → List StreamLine → List StreamLine
with_kind i labels n s kind.Append ls = record { number = n; label = label_of i labels n; bytes = s.bytes } ∷ ls
with_kind i labels n s kind.Source ls = ls

abbrev pub with_stream : Image → List StreamLabel → ℕ → Option Stream → List StreamLine → List StreamLine
with_stream i labels n None ls = ls
with_stream i labels n (Some s) ls = with_kind i labels n s s.kind ls

abbrev pub streams_of : Image → List StreamLabel → ℕ → List (Option Stream) → List StreamLine
streams_of i labels n [] = []
streams_of i labels n (s ∷ ss) = with_stream i labels n s (streams_of i labels (n + 1) ss)

abbrev pub outcome_of : WorldState → Outcome
outcome_of w = record { actors = lines_of w.image w.actors; streams = streams_of w.image (labels_of w.actors) 0 w.cells.streams }
