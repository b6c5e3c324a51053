-- The line that sums up a run of the workload.
use Rattle.std.specs.Prelude.{ℕ, ◌-◌, ◌^◌, min, List, [], ◌∷◌, ◌++◌, length, codes}
use Rattle.std.specs.List.{sum_by}
use Rattle.std.specs.Fmt.{decimal}
use Rattle.wedge_base.specs.declared.outcome.Outcome.{Outcome}
use Rattle.wedge_base.specs.declared.outcome.ActorLine.{ActorLine}
use Rattle.wedge_base.specs.declared.rights.End.{End}
use Rattle.wedge_base.specs.declared.rights.End.TheVariants as end

-- the value of an exit; of any other end 0
abbrev pub end_value : End → ℕ
end_value (end.Exited value) = value
end_value e = 0

-- the root is the first actor of an outcome
abbrev pub exit_value : List ActorLine → ℕ
exit_value [] = 0
exit_value (a ∷ as_) = end_value a.end

abbrev pub fuel_left : List ActorLine → ℕ
fuel_left [] = 0
fuel_left (a ∷ as_) = a.fuel

-- how many denials there were, counted to 2^64 - 1 at most
abbrev pub denials_of : List ActorLine → ℕ
denials_of actors = min (sum_by (λ a. length a.denials) actors) (2 ^ 64 - 1)

-- a word, a space, a number in decimal, and the byte that ends the field
unfoldable pub field : List ℕ → ℕ → ℕ → List ℕ
field word number after = word ++ 32 ∷ decimal number ++ after ∷ []

abbrev pub space : ℕ
space = 32

abbrev pub newline : ℕ
newline = 10

-- of a run of so many workers with this outcome, whose journal has so many entries
unfoldable pub summary_of : ℕ → Outcome → ℕ → List ℕ
summary_of workers o entries =
    field (codes "workers") workers space ++ field (codes "actors") (length o.actors) space
    ++ field (codes "denials") (denials_of o.actors) space ++ field (codes "entries") entries space
    ++ field (codes "value") (exit_value o.actors) space ++ field (codes "fuel") (fuel_left o.actors) newline
