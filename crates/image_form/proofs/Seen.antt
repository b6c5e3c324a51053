-- The addresses of the procedures that were read, as a set.
use Rattle.std.proofs.Common.{◌≡◌, ℕ, Bool, true, false, cond, ◌||◌, List, [], ◌∷◌, ◌++◌, refl, sym, ap, ◌∙◌, arith}
use Rattle.std.proofs.lemmas.Bool.Decides.{nat_tests}
use Rattle.std.proofs.lemmas.List.{map-append}
use Rattle.std.specs.Ordering.{nat_cmp, is_eq}
use Rattle.std.specs.BTreeMap.{is_at}
use Rattle.wedge_base.specs.declared.image.Procedure.{Procedure}
use Rattle.wedge_base.specs.Maps.{is_among}
use Rattle.image_form.specs.Rules.{addresses}

one_more : (a q : ℕ) (old : Bool) → cond (is_at (nat_cmp a) q) true old ≡ (old || (is_eq (nat_cmp q a) || false))
one_more a q old = grind (arith, nat_tests)

or_assoc : (a b c : Bool) → (a || (b || c)) ≡ ((a || b) || c)
or_assoc true b c = refl
or_assoc false b c = refl

-- a number among numbers and one more
is_among-append : (ns : List ℕ) (n q : ℕ) → is_among (ns ++ n ∷ []) q ≡ (is_among ns q || (is_eq (nat_cmp q n) || false))
is_among-append [] n q = refl
is_among-append (m ∷ ns) n q = ap (λ b. is_eq (nat_cmp q m) || b) (is_among-append ns n q) ∙ or_assoc (is_eq (nat_cmp q m)) (is_among ns q) (is_eq (nat_cmp q n) || false)

-- a set that has gained the address of one more procedure
pub gains : (front : List Procedure) (p : Procedure) (q : ℕ) (old new : Bool) → old ≡ is_among (addresses front) q → new ≡ cond (is_at (nat_cmp p.address) q) true old → new ≡ is_among (addresses (front ++ p ∷ [])) q
gains front p q old new h u =
    let apart : is_among (addresses (front ++ p ∷ [])) q ≡ (is_among (addresses front) q || (is_eq (nat_cmp q p.address) || false)) =
    ap (λ ns. is_among ns q) (map-append (λ x. x.address) front (p ∷ [])) ∙ is_among-append (addresses front) p.address q in
    u ∙ one_more p.address q old ∙ ap (λ b. b || (is_eq (nat_cmp q p.address) || false)) h ∙ sym apart
