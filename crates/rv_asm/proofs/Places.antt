-- The first place of a list at which a test passes.
use Rattle.std.proofs.Common.{◌≡◌, ℕ, ◌<◌, ◌≤◌, Bool, true, false, cond, ltb, List, length, get_or, [], Some, None, refl, arith}
use Rattle.std.specs.List.{position, position_or_len, after_first}
use Rattle.std.proofs.lemmas.Bool.{lt-ltb, le-ltb, ltb-false}
use Rattle.std.proofs.lemmas.List.Sums.{position_or_len_is}
use Rattle.std.proofs.Math.ListN.{drop_of_length-le}

module _ {X : Type 0} where
  pub position_there : (p : X → Bool) (xs : List X) (i : ℕ) (d : X) → i < length xs → ((k : ℕ) → k < i → p (get_or xs k d) ≡ false) → p (get_or xs i d) ≡ true → position p xs ≡ Some i
  position_there p xs i d inside before here =
      let place : position_or_len p xs ≡ i = position_or_len_is p xs i d (omega arith) before (λ _. here) in
      rw (place, lt-ltb i (length xs) inside) refl

  pub position_nowhere : (p : X → Bool) (xs : List X) (n : ℕ) (d : X) → length xs ≤ n → ((k : ℕ) → k < n → p (get_or xs k d) ≡ false) → position p xs ≡ None
  position_nowhere p xs n d past before =
      let place : position_or_len p xs ≡ length xs = position_or_len_is p xs (length xs) d (omega arith) (λ k h. before k (omega arith)) (λ h. absurd (omega arith)) in
      rw (place, le-ltb (length xs) (length xs) (omega arith)) refl

  nothing_at : (p : X → Bool) (xs : List X) (b : Bool) → ltb (position_or_len p xs) (length xs) ≡ b → cond b (Some (position_or_len p xs)) None ≡ None → after_first p xs ≡ []
  nothing_at p xs true is e = absurd cc
  nothing_at p xs false is e = let past = ltb-false _ _ is in drop_of_length-le xs (omega (arith, past))

  -- where no element passes, nothing follows the first that does
  pub nothing_after : (p : X → Bool) (xs : List X) → position p xs ≡ None → after_first p xs ≡ []
  nothing_after p xs e = nothing_at p xs (ltb (position_or_len p xs) (length xs)) refl e
