-- What two maps joined have at a key.
use Rattle.std.proofs.Common.{◌≡◌, ℕ, Bool, true, false, cond, [], ◌∷◌, Option, Some, None, is_some, if◌then◌else◌, refl, sym, ap, subst, ◌∙◌, arith}
use Rattle.std.specs.Option.{option_or}
use Rattle.std.specs.Ordering.{nat_cmp, eq_by_cmp}
use Rattle.std.specs.Cmp.{nat_cmp_total}
use Rattle.std.specs.FinMap.Entries.{find-put}
use Rattle.std.proofs.lemmas.Bool.Decides.{nat_tests}
use Rattle.wedge_base.specs.Maps.{Map, at, has, with, map_union}

module _ {X : Type 0} where
  or_none : (o : Option X) → o ≡ option_or o None
  or_none None = refl
  or_none (Some x) = refl

  -- where there is a value, what comes second does not matter
  or_some : (o p q : Option X) → is_some o ≡ true → option_or o p ≡ option_or o q
  or_some (Some x) p q e = refl
  or_some None p q e = absurd (cc)

  or_absent : (o p : Option X) → is_some o ≡ false → option_or o p ≡ p
  or_absent None p e = refl
  or_absent (Some x) p e = absurd (cc)

  there : (m : Map X) (e : ℕ × X) (k : ℕ) (rest : Option X) (b : Bool) → eq_by_cmp nat_cmp k e.0 ≡ b → has m e.0 ≡ true
      → option_or (at m k) rest ≡ option_or (at m k) (cond b (Some e.1) rest)
  there m e k rest true q h = or_some (at m k) rest (Some e.1) (subst (λ n. has m n ≡ true) (same k e.0 q) h)
    where
      same : (k n : ℕ) → eq_by_cmp nat_cmp k n ≡ true → n ≡ k
      same k n q = grind (arith, nat_tests)
  there m e k rest false q h = refl

  absent : (m : Map X) (e : ℕ × X) (k : ℕ) (rest : Option X) (b : Bool) → eq_by_cmp nat_cmp k e.0 ≡ b → has m e.0 ≡ false
      → option_or (cond b (Some e.1) (at m k)) rest ≡ option_or (at m k) (cond b (Some e.1) rest)
  absent m e k rest true q h = sym (or_absent (at m k) (Some e.1) (subst (λ n. has m n ≡ false) (same k e.0 q) h))
    where
      same : (k n : ℕ) → eq_by_cmp nat_cmp k n ≡ true → n ≡ k
      same k n q = grind (arith, nat_tests)
  absent m e k rest false q h = refl

  step : (m : Map X) (e : ℕ × X) (es : Map X) (k : ℕ) (b : Bool) → has m e.0 ≡ b
      → option_or (at (if b then m else with m e.0 e.1) k) (at es k) ≡ option_or (at m k) (at (e ∷ es) k)
  step m e es k true h = there m e k (at es k) (eq_by_cmp nat_cmp k e.0) refl h
  step m e es k false h =
      ap (λ o. option_or o (at es k)) (find-put nat_cmp nat_cmp_total k e.0 e.1 m) ∙ absent m e k (at es k) (eq_by_cmp nat_cmp k e.0) refl h

  -- the first map's value, else the second's
  pub at_joined : (m es : Map X) (k : ℕ) → at (map_union m es) k ≡ option_or (at m k) (at es k)
  at_joined m [] k = or_none (at m k)
  at_joined m (e ∷ es) k = at_joined (if has m e.0 then m else with m e.0 e.1) es k ∙ step m e es k (has m e.0) refl
