-- Reading entries one after the other, as a loop does.
use Rattle.std.proofs.Common.{◌≡◌, ℕ, suc, ◌-◌, ◌+◌, ◌≤◌, ◌<◌, List, [], ◌∷◌, ◌++◌, Ok, Err, refl, sym, ap, ◌∙◌, append_assoc, arith}
use Rattle.std.proofs.lemmas.List.{append-nil}
use Rattle.image_form.specs.declared.fault.ImageError.{ImageError}
use Rattle.image_form.specs.declared.fault.ImageError.TheVariants as error
use Rattle.image_form.specs.Reading.{◌>>=◌, Read, IsImageError, entries_at}

module _ {X : Type 0} where
  -- what was read before, and what is still read
  abbrev pub with_front : List X → Read (List X) → Read (List X)
  with_front front read = read >>= λ xs rest. Ok (front ++ xs, rest)

  -- after i of the entries, of which there are count, it is as if none had been read
  abbrev pub SoFar : (List X → List ℕ → Read X) → ℕ → ℕ → List X → List ℕ → Read (List X) → Type 0
  SoFar entry count i front bytes total = with_front front (entries_at entry (count - i) front bytes) ≡ total

  regroup : (front : List X) (x : X) (read : Read (List X)) → with_front front (read >>= λ xs rest. Ok (x ∷ xs, rest)) ≡ with_front (front ++ x ∷ []) read
  regroup front x (Ok r) = ap (λ (xs : List X). Ok (xs, r.1)) (simp append_assoc)
  regroup front x (Err f) = refl

  -- the entry was read in the light of a list that is the same as those before it
  pub goes_on : (entry : List X → List ℕ → Read X) (lent front : List X) (count i : ℕ) (bytes : List ℕ) (x : X) (after : List ℕ) (total : Read (List X))
      → lent ≡ front → i < count → entry lent bytes ≡ Ok (x, after) → SoFar entry count i front bytes total → SoFar entry count (i + 1) (front ++ x ∷ []) after total
  unfolding entries_at
  goes_on entry lent front count i bytes x after total same lt h so_far =
      let k : count - i ≡ suc (count - (i + 1)) = omega arith in
      let read : entry front bytes ≡ Ok (x, after) = ap (λ f. entry f bytes) (sym same) ∙ h in
      let one : with_front front (entries_at entry (count - i) front bytes) ≡ with_front (front ++ x ∷ []) (entries_at entry (count - (i + 1)) (front ++ x ∷ []) after) = rw (k, read) (regroup front x (entries_at entry (count - (i + 1)) (front ++ x ∷ []) after)) in
      sym one ∙ so_far

  pub ends : (entry : List X → List ℕ → Read X) (e : ImageError) (lent front : List X) (count i : ℕ) (bytes : List ℕ) (total : Read (List X))
      → lent ≡ front → i < count → IsImageError e (entry lent bytes) → SoFar entry count i front bytes total → IsImageError e total
  unfolding entries_at
  ends entry error.NoMemory lent front count i bytes total same lt h so_far = tt
  ends entry (error.Fault f) lent front count i bytes total same lt h so_far =
      let k : count - i ≡ suc (count - (i + 1)) = omega arith in
      let read : entry front bytes ≡ Err f = ap (λ l. entry l bytes) (sym same) ∙ h in
      let one : with_front front (entries_at entry (count - i) front bytes) ≡ Err f = rw (k, read) refl in
      sym so_far ∙ one

  pub is_done : (entry : List X → List ℕ → Read X) (front : List X) (count i : ℕ) (bytes : List ℕ) (total : Read (List X))
      → count ≤ i → SoFar entry count i front bytes total → total ≡ Ok (front, bytes)
  unfolding entries_at
  is_done entry front count i bytes total le so_far =
      let k : count - i ≡ 0 = omega arith in
      let one : with_front front (entries_at entry (count - i) front bytes) ≡ Ok (front, bytes) = rw k (ap (λ (xs : List X). Ok (xs, bytes)) (append-nil front)) in
      sym so_far ∙ one
