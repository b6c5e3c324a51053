-- What a directory can give is below its bound.
use Rattle.std.proofs.Common.{◌≡◌, ℕ, ◌+◌, ◌<◌, ◌≤◌, Bool, true, false, List, [], ◌∷◌, refl, sym, ap, subst, ◌∙◌, arith}
use Rattle.std.specs.List.{AllByRecursion}
use Rattle.std.specs.Prelude.{Option, Some, None, nat_lt, if◌then◌else◌}
use Rattle.wedge_events.specs.Directories.{Directory, Claim, no_number, claim, claim_from, claim_next, directory_next, is_claimed}
use Rattle.wedge_events.specs.declared.cells.DirectoryAsk.{DirectoryAsk}
use Rattle.wedge_events.specs.declared.cells.DirectoryAsk.TheVariants as ask
use Rattle.tag_directory.specs.Tables.{AreReleasedBelow, IsAllocatorState}

apart_within : (unused places : ℕ) (ps : List ℕ) → unused ≤ places → AreReleasedBelow unused ps → AllByRecursion (λ p. p < places) ps
apart_within unused places [] within h = tt
apart_within unused places (p ∷ ps) within h = (omega (arith, within, h.0), apart_within unused places ps within h.2)

pub kept_within : (places unused room : ℕ) (released : List ℕ) (table : List Bool) → IsAllocatorState places unused room released table → AllByRecursion (λ p. p < places) released
kept_within places unused room released table k = apart_within unused places released k.within k.apart

pub used_within : (unused places limit : ℕ) → unused ≤ places → places ≤ limit → unused ≤ limit
used_within unused places limit used few = omega (arith, used, few)

pub released_within : (places limit : ℕ) (ps : List ℕ) → AllByRecursion (λ p. p < places) ps → places ≤ limit → AllByRecursion (λ p. p < limit) ps
released_within places limit [] h few = tt
released_within places limit (p ∷ ps) h few = (omega (arith, h.0, few), released_within places limit ps h.1 few)

-- ---- no ask changes how many there are

SamePlaces : Directory → Option Claim → Type 0
SamePlaces d None = Unit {0}
SamePlaces d (Some c) = c.left.places ≡ d.places

unused_same : (d : Directory) (b : Bool) → SamePlaces d (if b then Some (record { place = d.unused; left = record d { number = d.number + 1; unused = d.unused + 1 } }) else None)
unfolding SamePlaces
unused_same d true = refl
unused_same d false = tt

from_same : (d : Directory) (ps : List ℕ) → SamePlaces d (claim_from d ps)
unfolding SamePlaces
from_same d [] = unused_same d (nat_lt d.unused d.places)
from_same d (p ∷ ps) = refl

claim_same : (d : Directory) (b : Bool) → SamePlaces d (if b then claim_from d d.released else None)
unfolding SamePlaces
claim_same d true = from_same d d.released
claim_same d false = tt

next_claim : (d : Directory) (o : Option Claim) → SamePlaces d o → (claim_next d o).places ≡ d.places
unfolding SamePlaces
next_claim d None h = refl
next_claim d (Some c) h = h

release_same : (d : Directory) (place : ℕ) (b : Bool) → (if b then record d { released = place ∷ d.released } else d).places ≡ d.places
release_same d place true = refl
release_same d place false = refl

next_same : (d : Directory) (q : DirectoryAsk) → (directory_next d q).places ≡ d.places
next_same d ask.Claim = next_claim d (claim d) (claim_same d (nat_lt d.number no_number))
next_same d (ask.Release place) = release_same d place (is_claimed d place)

pub next_within : (limit : ℕ) (d new : Directory) (q : DirectoryAsk) → new ≡ directory_next d q → d.places ≤ limit → new.places ≤ limit
next_within limit d new q is few = subst (λ n. n ≤ limit) (sym (ap (λ (x : Directory). x.places) is ∙ next_same d q)) few
