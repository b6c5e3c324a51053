-- What a binary search finds among files whose paths ascend.
use Rattle.std.proofs.Common.{◌≡◌, ℕ, zero, suc, ◌<◌, ◌≤◌, Bool, true, false, List, [], ◌∷◌, length, get_or, Some, None, Ordering, Less, Equal, Greater, refl, sym, ap, ◌∙◌, inl, inr, arith}
use Rattle.std.specs.List.{find, HoldsAt}
use Rattle.std.specs.List.Sorted.{IsNonDecreasingBy, IsPartitionPoint}
use Rattle.std.specs.Ordering.{nat_cmp, is_lt, is_eq, ordering_index}
use Rattle.std.specs.Cmp.Lexicographic.{slice_cmp}
use Rattle.std.proofs.lemmas.Cmp.{nat_list_cmp_total, alike_right}
use Rattle.std.proofs.lemmas.Bool.{cases_lt}
use Rattle.std.proofs.lemmas.Map.Text.{is_eq-slice_cmp}
use Rattle.wedge_base.specs.declared.image.FileEntry.{FileEntry}
use Rattle.wedge_base.specs.Names.{same}
use Rattle.file_tree.specs.Lookup.{AreAscendingFrom, AreAscending}

-- the byte order of texts
abbrev byte_order : List ℕ → List ℕ → Ordering
byte_order a b = slice_cmp nat_cmp a b

-- ---- the order of ascending paths

is_less : (o : Ordering) → is_lt o ≡ true → o ≡ Less
is_less Less e = refl
is_less Equal e = cc
is_less Greater e = cc

-- a text is below each path of the files that ascend from it
below_each : (before : List ℕ) (fs : List FileEntry) (j : ℕ) (d : FileEntry) → AreAscendingFrom before fs → j < length fs → byte_order before (get_or fs j d).path ≡ Less
below_each before [] j d h within = absurd (omega arith)
below_each before (f ∷ fs) zero d h within = is_less _ h.0
below_each before (f ∷ fs) (suc j) d h within =
    nat_list_cmp_total.trans before f.path (get_or fs j d).path (is_less _ h.0) (below_each f.path fs j d h.1 (omega arith))

ascending_tail : (f : FileEntry) (fs : List FileEntry) → AreAscending (f ∷ fs) → AreAscending fs
ascending_tail f [] h = tt
ascending_tail f (g ∷ fs) h = h.1

-- an earlier path is below a later one
earlier_below : (fs : List FileEntry) (i j : ℕ) (d : FileEntry) → AreAscending fs → i < j → j < length fs → byte_order (get_or fs i d).path (get_or fs j d).path ≡ Less
earlier_below [] i j d h lt within = absurd (omega arith)
earlier_below (f ∷ fs) i zero d h lt within = absurd (omega arith)
earlier_below (f ∷ fs) zero (suc j) d h lt within = below_each f.path fs j d h (omega arith)
earlier_below (f ∷ fs) (suc i) (suc j) d h lt within = earlier_below fs i j d (ascending_tail f fs h) (omega arith) (omega arith)

-- ---- comparisons with one path

at_most_2 : (o : Ordering) → ordering_index o ≤ 2
at_most_2 Less = omega arith
at_most_2 Equal = omega arith
at_most_2 Greater = omega arith

-- of two texts in order, the first compares with a third no higher than the second does
compares_no_higher : (a b c : List ℕ) (o : Ordering) → byte_order b c ≡ o → byte_order a b ≡ Less → ordering_index (byte_order a c) ≤ ordering_index o
compares_no_higher a b c Less e below = let less = nat_list_cmp_total.trans a b c below e in rw less (omega arith)
compares_no_higher a b c Equal e below = let less = sym (alike_right nat_list_cmp_total b c a e) ∙ below in rw less (omega arith)
compares_no_higher a b c Greater e below = at_most_2 (byte_order a c)

-- the comparisons with a path rise along the files, as a binary search asks
comparisons_rise : (fs : List FileEntry) (path : List ℕ) → AreAscending fs → IsNonDecreasingBy (λ f. ordering_index (byte_order f.path path)) fs
comparisons_rise fs path h i j d le within = elim (cases_lt i j) [
  | inl lt ↦ compares_no_higher (get_or fs i d).path (get_or fs j d).path path _ refl (earlier_below fs i j d h lt within)
  | inr ge ↦ let at_one : i ≡ j = omega arith in rw at_one (omega arith)
]

-- ---- the first file that passes a test

module _ {X : Type 0} (test : X → Bool) (d : X) where
  find_first : (xs : List X) (i : ℕ) → i < length xs → test (get_or xs i d) ≡ true → ((j : ℕ) → j < i → test (get_or xs j d) ≡ false) → find test xs ≡ Some (get_or xs i d)
  find_first [] i within here before = absurd (omega arith)
  find_first (x ∷ xs) zero within here before = rw here refl
  find_first (x ∷ xs) (suc i) within here before =
      let first = before 0 (omega arith) in rw first (find_first xs i (omega arith) here (λ j lt. before (suc j) (omega arith)))

  find_none : (xs : List X) → ((j : ℕ) → j < length xs → test (get_or xs j d) ≡ false) → find test xs ≡ None
  find_none [] none = refl
  find_none (x ∷ xs) none =
      let first = none 0 (omega arith) in rw first (find_none xs (λ j lt. none (suc j) (omega arith)))

-- ---- what the search finds

-- two texts are the same where they compare as equal
same_by : (a b : List ℕ) (o : Ordering) → byte_order a b ≡ o → same a b ≡ is_eq o
same_by a b o e = sym (is_eq-slice_cmp a b) ∙ ap is_eq e

-- where the search finds a file, that is the first of the path
pub find-found : (fs : List FileEntry) (path : List ℕ) (i : ℕ) (d : FileEntry) → AreAscending fs → i < length fs → HoldsAt (λ f. byte_order f.path path ≡ Equal) fs i → find (λ f. same f.path path) fs ≡ Some (get_or fs i d)
find-found fs path i d h within equal =
    let at = λ (j : ℕ). (get_or fs j d).path in
    let below : (j : ℕ) → j < i → byte_order (at j) path ≡ Less = λ j lt. sym (alike_right nat_list_cmp_total (at i) path (at j) (equal d)) ∙ earlier_below fs j i d h lt within in
    find_first (λ f. same f.path path) d fs i within (same_by (at i) path Equal (equal d)) (λ j lt. same_by (at j) path Less (below j lt))

-- where it finds none, no file has the path
pub find-absent : (fs : List FileEntry) (path : List ℕ) (i : ℕ) → AreAscending fs → (IsNonDecreasingBy (λ f. ordering_index (byte_order f.path path)) fs → IsPartitionPoint (λ f. byte_order f.path path ≡ Less) (λ f. byte_order f.path path ≡ Greater) fs i) → find (λ f. same f.path path) fs ≡ None
find-absent [] path i h parted = refl
find-absent (f ∷ fs) path i h parted =
    let parts = parted (comparisons_rise (f ∷ fs) path h) in
    find_none (λ g. same g.path path) f (f ∷ fs) (λ j within. elim (cases_lt j i) [
      | inl lt ↦ same_by _ path Less (parts.0 j f (omega arith) lt)
      | inr ge ↦ same_by _ path Greater (parts.1 j f ge within)
    ])
