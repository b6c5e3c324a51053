-- A number that is cut off at a limit, a digit at a time.
use Rattle.std.proofs.Common.{◌≡◌, ℕ, ◌+◌, ◌*◌, ◌≤◌, min, inl, inr, refl, arith}
use Rattle.std.proofs.Math.Nat.{mul-le-mul_left}
use Rattle.std.proofs.lemmas.Bool.{cases_lt}

pub capped_step : (n radix digit limit : ℕ) → 1 ≤ radix → min (min n limit * radix + digit) limit ≡ min (n * radix + digit) limit
capped_step n radix digit limit h =
    elim (cases_lt n limit) [
      | inl lt ↦ let e : min n limit ≡ n = omega arith in rw e refl
      | inr le ↦
          let e : min n limit ≡ limit = omega arith in
          let a : limit * 1 ≤ limit * radix = mul-le-mul_left limit h in
          let b : n * 1 ≤ n * radix = mul-le-mul_left n h in
          let x : min (limit * radix + digit) limit ≡ limit = omega (arith, a) in
          let y : min (n * radix + digit) limit ≡ limit = omega (arith, b, le) in
          rw (e, x, y) refl
    ]
