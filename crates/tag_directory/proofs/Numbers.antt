-- The numbers that a directory gives out.
use Rattle.std.proofs.Common.{◌≡◌, ℕ, ◌+◌, Bool, true, false, List, [], ◌∷◌, length, refl, ap, ◌∙◌}
use Rattle.std.specs.Prelude.{Option, Some, None, nat_lt, if◌then◌else◌}
use Rattle.wedge_events.specs.Directories.{Directory, Claim, no_number, claim, claim_from, claim_next, claim_reply, is_claimed, release}
use Rattle.wedge_events.specs.declared.cells.DirectoryAsk.TheVariants as ask
use Rattle.tag_directory.specs.Laws.{with_reply_number, numbers_given, from_on, NumbersAreGivenOnce}

-- what a claim leaves has the next number
IsNext : Directory → Option Claim → Type 0
IsNext d None = Unit {0}
IsNext d (Some c) = c.left.number ≡ d.number + 1

unused_next : (d : Directory) (b : Bool) → IsNext d (if b then Some (record { place = d.unused; left = record d { number = d.number + 1; unused = d.unused + 1 } }) else None)
unfolding IsNext
unused_next d true = refl
unused_next d false = tt

from_next : (d : Directory) (ps : List ℕ) → IsNext d (claim_from d ps)
unfolding IsNext
from_next d [] = unused_next d (nat_lt d.unused d.places)
from_next d (p ∷ ps) = refl

claim_next_at : (d : Directory) (b : Bool) → IsNext d (if b then claim_from d d.released else None)
unfolding IsNext
claim_next_at d true = from_next d d.released
claim_next_at d false = tt

-- a release leaves the number
release_number : (d : Directory) (place : ℕ) (b : Bool) → (if b then record d { released = place ∷ d.released } else d).number ≡ d.number
release_number d place true = refl
release_number d place false = refl

-- numbers from the next one on, behind what a claim gives
claimed_on : (d : Directory) (o : Option Claim) (ns : List ℕ) → IsNext d o → ns ≡ from_on (claim_next d o).number (length ns)
    → with_reply_number (claim_reply d o) ns ≡ from_on d.number (length (with_reply_number (claim_reply d o) ns))
unfolding IsNext
claimed_on d None ns next rest = rest
claimed_on d (Some c) ns next rest = ap (λ (l : List ℕ). d.number ∷ l) (rest ∙ ap (λ n. from_on n (length ns)) next)

pub given_once : NumbersAreGivenOnce
given_once d [] = refl
given_once d (ask.Claim ∷ qs) =
    claimed_on d (claim d) (numbers_given (claim_next d (claim d)) qs) (claim_next_at d (nat_lt d.number no_number)) (given_once (claim_next d (claim d)) qs)
given_once d (ask.Release place ∷ qs) =
    given_once (release d place) qs
    ∙ ap (λ n. from_on n (length (numbers_given (release d place) qs))) (release_number d place (is_claimed d place))
