-- Places are given to one at a time.
use Rattle.std.proofs.Common.{◌≡◌, ℕ, ◌+◌, ◌≤◌, ◌==◌, Bool, true, false, true≢false, not, ◌&&◌, ltb, List, [], ◌∷◌, refl, sym, ap, subst, ◌∙◌, arith}
use Rattle.std.specs.Prelude.{Option, Some, None, nat_lt, ◌||◌, if◌then◌else◌}
use Rattle.std.proofs.lemmas.Bool.{and_parts, eq-eqb}
use borrow.Author.Tests.{ltb-true, ltb-false, lt-ltb, le-ltb}
use Rattle.wedge_events.specs.Directories.{Directory, Claim, no_number, claim_from, claim_next, directory_next, contains_place, is_claimed}
use Rattle.wedge_events.specs.declared.cells.DirectoryAsk.{DirectoryAsk}
use Rattle.wedge_events.specs.declared.cells.DirectoryAsk.TheVariants as ask
use Rattle.tag_directory.specs.Laws.{AreReleased, IsClaimed, PlacesAreGivenApart}

-- the least place never used, and what a claim of it leaves
abbrev unused_claim : Directory → Claim
unused_claim d = record { place = d.unused; left = record d { number = d.number + 1; unused = d.unused + 1 } }

-- a place released, and what a claim of it leaves
abbrev released_claim : Directory → ℕ → List ℕ → Claim
released_claim d p ps = record { place = p; left = record d { number = d.number + 1; released = ps } }

-- ---- what is claimed

below_next : (p u : ℕ) (b : Bool) → ltb p u ≡ b → (u == p) ≡ false → ltb p (u + 1) ≡ ltb p u
below_next p u true e ne = let less = ltb-true p u e in lt-ltb p (u + 1) (omega arith) ∙ sym e
below_next p u false e ne =
    let more = ltb-false p u e in
    let apart : u ≡ p → ⊥ = λ same. true≢false (sym (eq-eqb u p same) ∙ ne) in
    le-ltb p (u + 1) (above p u more apart) ∙ sym e
  where
    above : (p u : ℕ) → u ≤ p → (u ≡ p → ⊥) → u + 1 ≤ p
    above p u h ne = omega (arith, ne)

unused_is : (d : Directory) → d.released ≡ [] → IsClaimed d (unused_claim d)
unused_is d none = record {
  free = ap (λ b. b && not (contains_place d.released d.unused)) (le-ltb d.unused d.unused (omega arith));
  taken = rw none (ap (λ b. b && true) (lt-ltb d.unused (d.unused + 1) (omega arith)));
  others = λ p ne. ap (λ b. b && not (contains_place d.released p)) (below_next p d.unused (ltb p d.unused) refl ne);
}

released_is : (d : Directory) (p : ℕ) (ps : List ℕ) → d.released ≡ p ∷ ps → (nat_lt p d.unused ≡ true) → contains_place ps p ≡ false → IsClaimed d (released_claim d p ps)
released_is d p ps is used apart = record {
  free = rw is (ap (λ b. nat_lt p d.unused && not (b || contains_place ps p)) (eq-eqb p p refl) ∙ and_false (nat_lt p d.unused));
  taken = (λ i. used i && not (apart i));
  others = λ q ne. rw is (ap (λ b. nat_lt q d.unused && not (b || contains_place ps q)) (sym ne));
}
  where
    and_false : (b : Bool) → (b && false) ≡ false
    and_false true = refl
    and_false false = refl

-- ---- each claim

some_of : {X : Type 0} (x y : X) → Some x ≡ Some y → x ≡ y
some_of x y e = ap (unwrap x) e
  where
    unwrap : {X : Type 0} → X → Option X → X
    unwrap d None = d
    unwrap d (Some z) = z

unused_gives : (d : Directory) (c : Claim) (b : Bool) → d.released ≡ [] → (if b then Some (unused_claim d) else None) ≡ Some c → IsClaimed d c
unused_gives d c true none e = subst (IsClaimed d) (some_of (unused_claim d) c e) (unused_is d none)
unused_gives d c false none e = absurd cc

from_gives : (d : Directory) (c : Claim) (ps : List ℕ) → d.released ≡ ps → AreReleased d.unused ps → claim_from d ps ≡ Some c → IsClaimed d c
from_gives d c [] none sound e = unused_gives d c (nat_lt d.unused d.places) none e
from_gives d c (p ∷ ps) is sound e = subst (IsClaimed d) (some_of (released_claim d p ps) c e) (released_is d p ps is sound.0 sound.1)

claim_gives : (d : Directory) (c : Claim) (b : Bool) → AreReleased d.unused d.released → (if b then claim_from d d.released else None) ≡ Some c → IsClaimed d c
claim_gives d c true sound e = from_gives d c d.released refl sound e
claim_gives d c false sound e = absurd cc

-- ---- each ask keeps the released places apart

Sound : Directory → Type 0
Sound d = AreReleased d.unused d.released

unused_keeps : (d : Directory) (b : Bool) → d.released ≡ [] → Sound d → Sound (claim_next d (if b then Some (unused_claim d) else None))
unfolding Sound
unused_keeps d true none sound = subst (AreReleased (d.unused + 1)) (sym none) tt
unused_keeps d false none sound = sound

from_keeps : (d : Directory) (ps : List ℕ) → d.released ≡ ps → Sound d → AreReleased d.unused ps → Sound (claim_next d (claim_from d ps))
unfolding Sound
from_keeps d [] none sound parts = unused_keeps d (nat_lt d.unused d.places) none sound
from_keeps d (p ∷ ps) is sound parts = parts.2

claim_keeps : (d : Directory) (b : Bool) → Sound d → Sound (claim_next d (if b then claim_from d d.released else None))
unfolding Sound
claim_keeps d true sound = from_keeps d d.released refl sound sound
claim_keeps d false sound = sound

not_true : (b : Bool) → not b ≡ true → b ≡ false
not_true true e = sym e
not_true false e = refl

release_keeps : (d : Directory) (place : ℕ) (b : Bool) → is_claimed d place ≡ b → Sound d → Sound (if b then record d { released = place ∷ d.released } else d)
unfolding Sound
release_keeps d place true e sound =
    let both : (nat_lt place d.unused ≡ true) × (not (contains_place d.released place) ≡ true) = and_parts (nat_lt place d.unused) (not (contains_place d.released place)) e in
    (both.0, not_true (contains_place d.released place) both.1, sound)
release_keeps d place false e sound = sound

asks_keep : (d : Directory) (q : DirectoryAsk) → Sound d → Sound (directory_next d q)
asks_keep d ask.Claim sound = claim_keeps d (nat_lt d.number no_number) sound
asks_keep d (ask.Release place) sound = release_keeps d place (is_claimed d place) refl sound

pub given_apart : PlacesAreGivenApart
unfolding Sound
given_apart = record {
  begins = λ places claimed. tt;
  keeps = λ d q sound. asks_keep d q sound;
  gives = λ d c sound e. claim_gives d c (nat_lt d.number no_number) sound e;
}
