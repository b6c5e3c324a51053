-- A directory whose places are below a limit gives out such places alone, whatever it is asked.
use Rattle.std.proofs.Common.{◌≡◌, ℕ, ◌+◌, ◌<◌, ◌≤◌, Bool, true, false, List, [], ◌∷◌, refl, sym, ap, subst, arith}
use Rattle.std.proofs.lemmas.Bool.Decides.{nat_tests}
use Rattle.std.specs.List.{AllByRecursion}
use Rattle.std.specs.Prelude.{Option, Some, None, nat_lt, not, ◌&&◌, if◌then◌else◌}
use Rattle.wedge_events.specs.Directories.{Directory, Claim, no_number, claim_from, claim, claim_reply, claim_next, directory_reply as directory_reply_of, directory_next, contains_place, is_claimed}
use Rattle.wedge_events.specs.declared.cells.DirectoryAsk.{DirectoryAsk}
use Rattle.wedge_events.specs.declared.cells.DirectoryAsk.TheVariants as directory_ask
use Rattle.wedge_events.specs.declared.cells.DirectoryReply.TheVariants as directory_reply
use Rattle.machine.specs.Between.{GivesBelow}

-- a place that is claimed
pub record IsClaim (n : ℕ) (d : Directory) (c : Claim) : Type 0 where
  pub inside : c.place < n
  pub sound : GivesBelow n c.left

claim_from_is : (n : ℕ) (d : Directory) (ps : List ℕ) (c : Claim) → GivesBelow n d → AllByRecursion (λ p. p < n) ps → claim_from d ps ≡ Some c → IsClaim n d c
claim_from_is n d [] c sound all e = by_room (nat_lt d.unused d.places) refl e
  where
    below : (m k : ℕ) → nat_lt m k ≡ true → k ≤ n → m < n
    below m k e few = grind (arith, nat_tests, e, few)

    by_room : (t : Bool) → nat_lt d.unused d.places ≡ t → (if t then Some (record { place = d.unused; left = record d { number = d.number + 1; unused = d.unused + 1 } }) else None) ≡ Some c → IsClaim n d c
    by_room false room e = absurd cc
    by_room true room e =
        let is : record { place = d.unused; left = record d { number = d.number + 1; unused = d.unused + 1 } } ≡ c = cc in
        let less : d.unused < n = below d.unused d.places room sound.0 in
        subst (IsClaim n d) is (record { inside = less; sound = (sound.0, omega (arith, less), sound.2) })
claim_from_is n d (p ∷ ps) c sound all e =
    let is : record { place = p; left = record d { number = d.number + 1; released = ps } } ≡ c = cc in
    subst (IsClaim n d) is (record { inside = all.0; sound = (sound.0, sound.1, all.1) })

pub claim_is : (n : ℕ) (d : Directory) (c : Claim) → GivesBelow n d → claim d ≡ Some c → IsClaim n d c
claim_is n d c sound e = by_number (nat_lt d.number no_number) e
  where
    by_number : (t : Bool) → (if t then claim_from d d.released else None) ≡ Some c → IsClaim n d c
    by_number true e = claim_from_is n d d.released c sound sound.2 e
    by_number false e = absurd cc

pub claimed_inside : (n : ℕ) (d : Directory) (slot tag : ℕ) → GivesBelow n d → directory_reply_of d directory_ask.Claim ≡ directory_reply.Claimed slot tag → slot < n
claimed_inside n d slot tag sound e = by_claim (claim d) refl e
  where
    by_claim : (o : Option Claim) → claim d ≡ o → claim_reply d o ≡ directory_reply.Claimed slot tag → slot < n
    by_claim None is e = absurd cc
    by_claim (Some c) is e = let same : c.place ≡ slot = cc in subst (λ k. k < n) same (claim_is n d c sound is).inside

-- its number is the next one
pub claimed_number : (d : Directory) (place number : ℕ) → directory_reply_of d directory_ask.Claim ≡ directory_reply.Claimed place number → number ≡ d.number
claimed_number d place number e = by_claim (claim d) e
  where
    by_claim : (o : Option Claim) → claim_reply d o ≡ directory_reply.Claimed place number → number ≡ d.number
    by_claim None e = absurd cc
    by_claim (Some c) e = let same : d.number ≡ number = cc in sym same

-- numbers only rise
claim_rises : (d : Directory) (ps : List ℕ) (c : Claim) → claim_from d ps ≡ Some c → c.left.number ≡ d.number + 1
claim_rises d [] c e = by_room (nat_lt d.unused d.places) e
  where
    by_room : (t : Bool) → (if t then Some (record { place = d.unused; left = record d { number = d.number + 1; unused = d.unused + 1 } }) else None) ≡ Some c → c.left.number ≡ d.number + 1
    by_room false e = absurd cc
    by_room true e = let is : record { place = d.unused; left = record d { number = d.number + 1; unused = d.unused + 1 } } ≡ c = cc in ap (λ (x : Claim). x.left.number) (sym is)
claim_rises d (p ∷ ps) c e = let is : record { place = p; left = record d { number = d.number + 1; released = ps } } ≡ c = cc in ap (λ (x : Claim). x.left.number) (sym is)

pub claimed_rises : (d : Directory) (c : Claim) → claim d ≡ Some c → c.left.number ≡ d.number + 1
claimed_rises d c e = by_number (nat_lt d.number no_number) e
  where
    by_number : (t : Bool) → (if t then claim_from d d.released else None) ≡ Some c → c.left.number ≡ d.number + 1
    by_number true e = claim_rises d d.released c e
    by_number false e = absurd cc

pub next_number : (d : Directory) (q : DirectoryAsk) → d.number ≤ (directory_next d q).number
next_number d directory_ask.Claim = by_claim (claim d) refl
  where
    by_claim : (o : Option Claim) → claim d ≡ o → d.number ≤ (claim_next d o).number
    by_claim None is = omega arith
    by_claim (Some c) is = let up = claimed_rises d c is in omega (arith, up)
next_number d (directory_ask.Release place) = by_test (is_claimed d place)
  where
    by_test : (t : Bool) → d.number ≤ (if t then record d { released = place ∷ d.released } else d).number
    by_test false = omega arith
    by_test true = omega arith

-- the places that it has left are below the limit too, whatever it is asked
pub next_sound : (n : ℕ) (d : Directory) (q : DirectoryAsk) → GivesBelow n d → GivesBelow n (directory_next d q)
next_sound n d directory_ask.Claim sound = by_claim (claim d) refl
  where
    by_claim : (o : Option Claim) → claim d ≡ o → GivesBelow n (claim_next d o)
    by_claim None is = sound
    by_claim (Some c) is = (claim_is n d c sound is).sound
next_sound n d (directory_ask.Release place) sound = by_test (is_claimed d place) refl
  where
    below : (t : Bool) → (nat_lt place d.unused && t) ≡ true → place < n
    below t e = grind (arith, nat_tests, e, sound.1)

    by_test : (t : Bool) → is_claimed d place ≡ t → GivesBelow n (if t then record d { released = place ∷ d.released } else d)
    by_test false e = sound
    by_test true e = (sound.0, sound.1, (below (not (contains_place d.released place)) e, sound.2))
