-- The lines of actors that have ended, sorted by a stable sort, are those of the outcome.
use Rattle.std.proofs.Common.{◌≡◌, Bool, cond, List, [], ◌∷◌, ◌++◌, refl, ap, sym, ◌∙◌, append-nil}
use Rattle.std.specs.Cmp.{IsStrictWeakOrder}
use Rattle.std.specs.Cmp.Lexicographic.{slice_cmp, nat_list_cmp_total}
use Rattle.std.specs.List.Sorted.{IsSortedBy, IsStableBy}
use Rattle.std.specs.Ordering.{nat_cmp, is_lt}
use Rattle.std.proofs.lemmas.List.Sorted.{ranks_by}
use Rattle.wedge_base.specs.Images.{Image}
use Rattle.wedge_base.specs.declared.outcome.ActorLine.{ActorLine}
use Rattle.machine.specs.declared.phase.Phase.{Phase}
use Rattle.machine.specs.declared.phase.Phase.TheVariants as phase
use Rattle.machine.specs.Actors.{ActorState}
use Rattle.machine.specs.Outcomes.{line_of, with_line, with_actor_line, lines_of}
use Rattle.stable_sort.specs.Sorting.{insert_sorted, sorted_onto, sorted}
use Rattle.stable_sort.proofs.Sorted.{is_sorted}

-- whether a line stands before another
abbrev pub line_before : ActorLine → ActorLine → Bool
line_before l m = is_lt (slice_cmp nat_cmp l.name m.name)

pub line_order : IsStrictWeakOrder line_before
line_order = ranks_by nat_list_cmp_total (λ l. l.name)

-- the lines of actors that have ended, from the last actor to the first
abbrev pub from_last : Image → List ActorState → List ActorLine
from_last i [] = []
from_last i (a ∷ as_) = from_last i as_ ++ with_actor_line i a a.phase []

-- one more item behind the others is put among them, sorted
sorted_onto_last : {X : Type 0} (before : X → X → Bool) (done xs : List X) (x : X) → sorted_onto before done (xs ++ x ∷ []) ≡ insert_sorted before x (sorted_onto before done xs)
sorted_onto_last before done [] x = refl
sorted_onto_last before done (y ∷ ys) x = sorted_onto_last before (insert_sorted before y done) ys x

sorted_last : {X : Type 0} (before : X → X → Bool) (xs : List X) (x : X) → sorted before (xs ++ x ∷ []) ≡ insert_sorted before x (sorted before xs)
sorted_last before xs x = sorted_onto_last before [] xs x

line_put : (l : ActorLine) (ms : List ActorLine) → with_line l ms ≡ insert_sorted line_before l ms
line_put l [] = refl
line_put l (m ∷ ms) = ap (λ (ns : List ActorLine). cond (line_before l m) (l ∷ m ∷ ms) (m ∷ ns)) (line_put l ms)

one_more : (i : Image) (a : ActorState) (p : Phase) (ls : List ActorLine) → with_actor_line i a p (sorted line_before ls) ≡ sorted line_before (ls ++ with_actor_line i a p [])
one_more i a phase.Running ls = ap (sorted line_before) (sym (append-nil ls))
one_more i a (phase.Starting pre) ls = ap (sorted line_before) (sym (append-nil ls))
one_more i a (phase.MakingGate pre) ls = ap (sorted line_before) (sym (append-nil ls))
one_more i a (phase.Opening slot tag) ls = ap (sorted line_before) (sym (append-nil ls))
one_more i a (phase.OpeningFile o) ls = ap (sorted line_before) (sym (append-nil ls))
one_more i a (phase.Releasing slot) ls = ap (sorted line_before) (sym (append-nil ls))
one_more i a (phase.Entering entrance) ls = ap (sorted line_before) (sym (append-nil ls))
one_more i a (phase.Waiting number) ls = ap (sorted line_before) (sym (append-nil ls))
one_more i a (phase.Within q) ls = ap (sorted line_before) (sym (append-nil ls))
one_more i a (phase.Ending e) ls = ap (sorted line_before) (sym (append-nil ls))
one_more i a (phase.Ended e) ls = line_put (line_of i a e) (sorted line_before ls) ∙ sym (sorted_last line_before ls (line_of i a e))

lines_are : (i : Image) (actors : List ActorState) → lines_of i actors ≡ sorted line_before (from_last i actors)
lines_are i [] = refl
lines_are i (a ∷ as_) = ap (with_actor_line i a a.phase) (lines_are i as_) ∙ one_more i a a.phase (from_last i as_)

-- a stable sort of these lines gives those of the outcome
pub lines_sorted : (i : Image) (actors : List ActorState) (ls ms : List ActorLine) → ls ≡ from_last i actors → IsSortedBy line_before ms → IsStableBy line_before ls ms → ms ≡ lines_of i actors
lines_sorted i actors ls ms are up stable = is_sorted line_before line_order ls ms up stable ∙ ap (sorted line_before) are ∙ sym (lines_are i actors)
