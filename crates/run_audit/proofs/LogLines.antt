-- The lines of logs are those of actors that ended so.
use Rattle.std.proofs.Common.{◌≡◌, List, [], ◌∷◌, ◌++◌, map, refl, ap, ◌∙◌}
use Rattle.std.specs.List.Sorted.{IsSortedBy, IsStableBy}
use Rattle.wedge_base.specs.Images.{Image}
use Rattle.wedge_base.specs.declared.outcome.ActorLine.{ActorLine}
use Rattle.machine.specs.declared.phase.Phase.TheVariants as phase
use Rattle.machine.specs.Actors.{ActorState, root, opening_hart}
use Rattle.machine.specs.Outcomes.{with_line, lines_of}
use Rattle.run_outcome.proofs.Lines.{from_last, line_before, lines_sorted}
use Rattle.thread_laws.specs.Joining.{line_in, lines_in}
use Rattle.thread_laws.specs.declared.gathered.ActorLog.{ActorLog}

-- an actor that ended so
abbrev actor_of : Image → ActorLog → ActorState
actor_of i g = record (root i) {
  name = g.name;
  compartment = g.compartment;
  hart = opening_hart g.pc;
  fuel = g.fuel;
  denials = g.denials;
  phase = phase.Ended g.end;
}

-- the lines of logs, from the last log to the first
abbrev pub lines_from_last : Image → List ActorLog → List ActorLine
lines_from_last i [] = []
lines_from_last i (g ∷ gs) = lines_from_last i gs ++ line_in i g ∷ []

lines_alike : (i : Image) (gs : List ActorLog) → lines_of i (map (actor_of i) gs) ≡ lines_in i gs
lines_alike i [] = refl
lines_alike i (g ∷ gs) = ap (with_line (line_in i g)) (lines_alike i gs)

last_alike : (i : Image) (gs : List ActorLog) → lines_from_last i gs ≡ from_last i (map (actor_of i) gs)
last_alike i [] = refl
last_alike i (g ∷ gs) = ap (λ ls. ls ++ line_in i g ∷ []) (last_alike i gs)

pub log_lines_sorted : (i : Image) (gs : List ActorLog) (ls ms : List ActorLine) → ls ≡ lines_from_last i gs → IsSortedBy line_before ms → IsStableBy line_before ls ms → ms ≡ lines_in i gs
log_lines_sorted i gs ls ms are up stable = lines_sorted i (map (actor_of i) gs) ls ms (are ∙ last_alike i gs) up stable ∙ lines_alike i gs
