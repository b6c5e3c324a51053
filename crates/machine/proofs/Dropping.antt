-- The elements behind those that are dropped.
use Rattle.std.proofs.Common.{◌≡◌, ℕ, zero, suc, ◌+◌, List, [], ◌∷◌, drop, refl, sym, ap, ◌∙◌, arith}
use Rattle.std.proofs.Math.Seq.{drop-nil}
use Rattle.machine.specs.declared.copy_grant.CopyGrant.{CopyGrant}
use Rattle.machine.specs.Preparation.{behind_first}

drop_suc : (n : ℕ) (gs : List CopyGrant) → drop (suc n) gs ≡ behind_first (drop n gs)
drop_suc zero [] = refl
drop_suc zero (g ∷ gs) = refl
drop_suc (suc n) [] = drop-nil (suc (suc n)) ∙ sym (ap behind_first (drop-nil (suc n)))
drop_suc (suc n) (g ∷ gs) = drop_suc n gs

pub drop_next : (n : ℕ) (gs : List CopyGrant) → drop (n + 1) gs ≡ behind_first (drop n gs)
drop_next n gs = let next : n + 1 ≡ suc n = omega arith in ap (λ m. drop m gs) next ∙ drop_suc n gs
