-- What a binary search finds in a map, and what its entries are after a value is put there.
use Rattle.std.proofs.Common.{◌≡◌, ℕ, zero, suc, ◌+◌, ◌<◌, ◌≤◌, true, false, [], ◌∷◌, length, get_or, set, is_some, Some, None, Result, Ok, Err, IfOk, IfErr, refl, sym, ap, subst, arith}
use Rattle.std.specs.List.{insert}
use Rattle.std.specs.List.Sorted.{IsSearchInRange, IsBinarySearchResult, IsNonDecreasingBy}
use Rattle.std.specs.Ordering.{nat_cmp, ordering_index}
use Rattle.std.specs.declared.cmp.Ordering.TheVariants.{Less, Equal, Greater}
use Rattle.std.proofs.lemmas.Cmp.{ranked}
use Rattle.std.proofs.lemmas.List.{length-set}
use Rattle.std.proofs.lemmas.List.Edits.{length-insert}
use Rattle.std.proofs.lemmas.Bool.Decides.{nat_tests}
use Rattle.wedge_base.specs.Maps.{Map, at, has, with, length_with, keys, AreRising}
use Rattle.grant_sheet.specs.NumberMap.{IsFound, IsGap}

-- ---- comparisons of numbers

pub cmp_less : (x y : ℕ) → x < y → nat_cmp x y ≡ Less
cmp_less x y lt = grind (arith, nat_tests)

pub cmp_equal : (x y : ℕ) → x ≡ y → nat_cmp x y ≡ Equal
cmp_equal x y e = grind (arith, nat_tests)

pub cmp_greater : (x y : ℕ) → y < x → nat_cmp x y ≡ Greater
cmp_greater x y gt = grind (arith, nat_tests)

-- ---- a key that is found

module _ {X : Type 0} where
  pub at_found : (es : Map X) (k i : ℕ) (d : ℕ × X) → IsFound es k i → at es k ≡ Some (get_or es i d).1
  at_found [] k i d found = absurd found
  at_found (e ∷ es) k zero d found = rw (cmp_equal k e.0 (sym found))
  at_found (e ∷ es) k (suc i) d found = rw (cmp_greater k e.0 found.0) (at_found es k i d found.1)

  pub with_found : (es : Map X) (k i : ℕ) (v : X) → IsFound es k i → with es k v ≡ set es i (k, v)
  with_found [] k i v found = absurd found
  with_found (e ∷ es) k zero v found = rw (cmp_equal k e.0 (sym found)) (ap (λ n. (n, v) ∷ es) found)
  with_found (e ∷ es) k (suc i) v found = rw (cmp_greater k e.0 found.0) (ap (λ l. e ∷ l) (with_found es k i v found.1))

  -- ---- a key that is not there

  -- a key below all others is not there
  pub at_below : (low k : ℕ) (es : Map X) → AreRising low (keys es) → k < low → at es k ≡ None
  at_below low k [] rising below = refl
  at_below low k (e ∷ es) rising below = rw (cmp_less k e.0 (omega (arith, rising.0))) (at_below (e.0 + 1) k es rising.1 (omega (arith, rising.0)))

  pub at_gap : (low : ℕ) (es : Map X) (k i : ℕ) → AreRising low (keys es) → IsGap es k i → at es k ≡ None
  at_gap low [] k i rising gap = refl
  at_gap low (e ∷ es) k zero rising gap = rw (cmp_less k e.0 gap) (at_below (e.0 + 1) k es rising.1 (omega (arith, gap)))
  at_gap low (e ∷ es) k (suc i) rising gap = rw (cmp_greater k e.0 gap.0) (at_gap (e.0 + 1) es k i rising.1 gap.1)

  pub with_gap : (es : Map X) (k i : ℕ) (v : X) → IsGap es k i → with es k v ≡ insert es i (k, v)
  with_gap [] k zero v gap = refl
  with_gap [] k (suc i) v gap = absurd gap
  with_gap (e ∷ es) k zero v gap = rw (cmp_less k e.0 gap)
  with_gap (e ∷ es) k (suc i) v gap = rw (cmp_greater k e.0 gap.0) (ap (λ l. e ∷ l) (with_gap es k i v gap.1))

  pub gap_within : (es : Map X) (k i : ℕ) → IsGap es k i → i ≤ length es
  gap_within [] k zero gap = omega arith
  gap_within [] k (suc i) gap = absurd gap
  gap_within (e ∷ es) k zero gap = omega arith
  gap_within (e ∷ es) k (suc i) gap = omega (arith, gap_within es k i gap.1)

  pub found_within : (es : Map X) (k i : ℕ) → IsFound es k i → i < length es
  found_within [] k i found = absurd found
  found_within (e ∷ es) k zero found = omega arith
  found_within (e ∷ es) k (suc i) found = omega (arith, found_within es k i found.1)

  -- ---- keys keep rising

  pub found_rising : (low : ℕ) (es : Map X) (k i : ℕ) (v : X) → AreRising low (keys es) → IsFound es k i → AreRising low (keys (set es i (k, v)))
  found_rising low [] k i v rising found = absurd found
  found_rising low (e ∷ es) k zero v rising found = subst (λ n. (low ≤ n) × AreRising (n + 1) (keys es)) found rising
  found_rising low (e ∷ es) k (suc i) v rising found = (rising.0, found_rising (e.0 + 1) es k i v rising.1 found.1)

  pub gap_rising : (low : ℕ) (es : Map X) (k i : ℕ) (v : X) → low ≤ k → AreRising low (keys es) → IsGap es k i → AreRising low (keys (insert es i (k, v)))
  gap_rising low [] k zero v le rising gap = (le, tt)
  gap_rising low [] k (suc i) v le rising gap = absurd gap
  gap_rising low (e ∷ es) k zero v le rising gap = (le, (omega (arith, gap), rising.1))
  gap_rising low (e ∷ es) k (suc i) v le rising gap = (rising.0, gap_rising (e.0 + 1) es k i v (omega (arith, gap.0)) rising.1 gap.1)

  -- ---- how many entries there are then

  pub length_found : (es : Map X) (k i : ℕ) (v : X) → IsFound es k i → length (set es i (k, v)) ≡ length_with es k
  length_found es k i v found = length_in (ap is_some (at_found es k i (k, v) found))
    where
      length_in : has es k ≡ true → length (set es i (k, v)) ≡ length_with es k
      length_in there = rw there (length-set es i (k, v))

  pub length_gap : (es : Map X) (k i : ℕ) (v : X) → AreRising 0 (keys es) → IsGap es k i → length (insert es i (k, v)) ≡ length_with es k
  length_gap es k i v rising gap = length_in (ap is_some (at_gap 0 es k i rising gap))
    where
      length_in : has es k ≡ false → length (insert es i (k, v)) ≡ length_with es k
      length_in absent = rw absent (length-insert es i (k, v) (gap_within es k i gap))

  -- ---- what a binary search finds

  key_from : (low : ℕ) (es : Map X) (j : ℕ) (d : ℕ × X) → AreRising low (keys es) → j < length es → low ≤ (get_or es j d).0
  key_from low [] j d rising within = absurd (omega arith)
  key_from low (e ∷ es) zero d rising within = rising.0
  key_from low (e ∷ es) (suc j) d rising within = omega (arith, rising.0, key_from (e.0 + 1) es j d rising.1 (omega arith))

  keys_rise : (low : ℕ) (es : Map X) (i j : ℕ) (d : ℕ × X) → AreRising low (keys es) → i ≤ j → j < length es → (get_or es i d).0 ≤ (get_or es j d).0
  keys_rise low [] i j d rising le within = absurd (omega arith)
  keys_rise low (e ∷ es) zero zero d rising le within = omega arith
  keys_rise low (e ∷ es) zero (suc j) d rising le within = omega (arith, key_from (e.0 + 1) es j d rising.1 (omega arith))
  keys_rise low (e ∷ es) (suc i) zero d rising le within = absurd (omega arith)
  keys_rise low (e ∷ es) (suc i) (suc j) d rising le within = keys_rise (e.0 + 1) es i j d rising.1 (omega arith) (omega arith)

  found_from : (low : ℕ) (es : Map X) (k i : ℕ) (d : ℕ × X) → AreRising low (keys es) → i < length es → (get_or es i d).0 ≡ k → IsFound es k i
  found_from low [] k i d rising within same = absurd (omega arith)
  found_from low (e ∷ es) k zero d rising within same = same
  found_from low (e ∷ es) k (suc i) d rising within same =
      (omega (arith, same, key_from (e.0 + 1) es i d rising.1 (omega arith)), found_from (e.0 + 1) es k i d rising.1 (omega arith) same)

  gap_from : (es : Map X) (k i : ℕ) (d : ℕ × X) → i ≤ length es
      → ((j : ℕ) → j < i → (get_or es j d).0 < k)
      → ((j : ℕ) → i ≤ j → j < length es → k < (get_or es j d).0)
      → IsGap es k i
  gap_from [] k zero d within smaller greater = tt
  gap_from [] k (suc i) d within smaller greater = absurd (omega arith)
  gap_from (e ∷ es) k zero d within smaller greater = greater 0 (omega arith) (omega arith)
  gap_from (e ∷ es) k (suc i) d within smaller greater =
      (smaller 0 (omega arith), gap_from es k i d (omega arith) (λ j lt. smaller (suc j) (omega arith)) (λ j le lt. greater (suc j) (omega arith) (omega arith)))

  comparisons_rise : (low : ℕ) (es : Map X) (k : ℕ) → AreRising low (keys es) → IsNonDecreasingBy (λ e. ordering_index (nat_cmp e.0 k)) es
  comparisons_rise low es k rising i j d le within = order _ _ k (keys_rise low es i j d rising le within)
    where
      order : (x y k : ℕ) → x ≤ y → ordering_index (nat_cmp x k) ≤ ordering_index (nat_cmp y k)
      order x y k le = grind (arith, nat_tests)

  search_result_in : (low : ℕ) (es : Map X) (k : ℕ) (d : ℕ × X) → AreRising low (keys es) → (r : Result ℕ ℕ)
      → IsSearchInRange r (length es) → IsBinarySearchResult (λ e. nat_cmp e.0 k) es r
      → record { found : IfOk r (IsFound es k); absent : IfErr r (IsGap es k) }
  search_result_in low es k d rising (Ok i) within equal = record {
    found = found_from low es k i d rising within (ranked _ k _ (sym (equal d)));
    absent = tt;
  }
  search_result_in low es k d rising (Err i) within parted =
      let parts = parted (comparisons_rise low es k rising) in
      record {
        found = tt;
        absent = gap_from es k i d within
            (λ j lt. ranked _ k _ (sym (parts.0 j d (omega arith) lt)))
            (λ j le lt. ranked _ k _ (sym (parts.1 j d le lt)));
      }

  -- a binary search by keys ends at the key, or where it would be put
  pub search_result : (es : Map X) (k : ℕ) → AreRising 0 (keys es) → (r : Result ℕ ℕ)
      → IsSearchInRange r (length es) → IsBinarySearchResult (λ e. nat_cmp e.0 k) es r
      → record { found : IfOk r (IsFound es k); absent : IfErr r (IsGap es k) }
  search_result [] k rising (Ok i) within equal = absurd (omega arith)
  search_result [] k rising (Err zero) within parted = record { found = tt; absent = tt }
  search_result [] k rising (Err (suc i)) within parted = absurd (omega arith)
  search_result (e ∷ es) k rising r within result = search_result_in 0 (e ∷ es) k e rising r within result
