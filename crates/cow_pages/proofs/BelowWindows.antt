-- Ranges that lie below the windows of tags.
use Rattle.std.proofs.Common.{◌≡◌, ℕ, zero, suc, ◌+◌, ◌≤◌, Bool, true, false, List, [], ◌∷◌, length, get_or, set, refl, ap, ◌∙◌, arith}
use Rattle.std.specs.Prelude.{Some, None, if◌then◌else◌}
use Rattle.std.proofs.lemmas.List.{length-replicate}
use Rattle.wedge_base.specs.Bytes.{zeros}
use Rattle.wedge_base.specs.Images.{private_base, private_size, windows_base}
use Rattle.wedge_base.specs.Memory.{lies_in, range_at}
use Rattle.wedge_base.specs.declared.image.MemoryRange.{MemoryRange}
use Rattle.cow_pages.specs.Below.{AreBelow}
use Rattle.cow_pages.proofs.RangeFronts.{lies_parts}

private_below : (n : ℕ) → private_base + n ≤ windows_base → private_base + length (zeros n) ≤ windows_base
unfolding zeros
private_below n h = omega (arith, length-replicate {A = ℕ} n 0)

pub opening_below : (rs : List MemoryRange) → AreBelow rs → AreBelow (record { base = private_base; bytes = zeros private_size } ∷ rs)
opening_below rs h = (private_below private_size (omega arith), h)

-- another range with the same base and size, in place of one
pub set_below : (rs : List MemoryRange) (i : ℕ) (r d : MemoryRange) → AreBelow rs → r.base ≡ (get_or rs i d).base → length r.bytes ≡ length ((get_or rs i d).bytes) → AreBelow (set rs i r)
set_below [] i r d h b l = tt
set_below (x ∷ rs) zero r d h b l = (omega (arith, h.0, b, l), h.1)
set_below (x ∷ rs) (suc i) r d h b l = (h.0, set_below rs i r d h.1 b l)

-- no bytes from the first window on lie in a range
lies_nowhere : (address n : ℕ) (y : MemoryRange) (t : Bool) → lies_in address n y ≡ t → y.base + length y.bytes ≤ windows_base → windows_base ≤ address → 1 ≤ n → t ≡ false
lies_nowhere address n y false e h w s = refl
lies_nowhere address n y true e h w s = let l = lies_parts address n y e in absurd (omega (arith, l.0, l.1))

pub none_above : (rs : List MemoryRange) (address n : ℕ) → AreBelow rs → windows_base ≤ address → 1 ≤ n → range_at rs address n ≡ None
none_above [] address n h w s = refl
none_above (y ∷ ys) address n h w s =
    ap (λ t. if t then Some y else range_at ys address n) (lies_nowhere address n y _ refl h.0 w s) ∙ none_above ys address n h.1 w s
