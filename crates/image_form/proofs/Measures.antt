-- How many bytes a table takes.
use Rattle.std.proofs.Common.{◌≡◌, ℕ, ◌+◌, ◌*◌, ◌<◌, ◌≤◌, List, [], ◌∷◌, length, get_or, take, drop, refl, ap, subst, ◌∙◌, length-append, add-one, drop-cons, arith}
use Rattle.std.specs.Prelude.{Option, None}
use Rattle.std.specs.List.{flat_map, AllByRecursion}
use Rattle.std.proofs.lemmas.List.{drop_all, take_all}
use Rattle.std.proofs.lemmas.List.Concat.{flat_map-cons}
use Rattle.image_form.specs.Encoding.{encode_number, encode_table}
use Rattle.image_form.specs.Fitting.{Leaves, TableFits}

number_long : (n : ℕ) → length (encode_number n) ≡ 4
unfolding encode_number
number_long n = refl

none_left : (text : List ℕ) (r : Option ℕ) (room : ℕ) → r ≡ None → room < length text → Leaves room text r
none_left text r room none short = rw none short

-- A table, as a loop measures it.
module _ {X : Type 0} (encode : X → List ℕ) (fits : X → Type 0) (xs : List X) where
  -- after the first entries, the bytes that are left and those that the others take
  abbrev pub Left : ℕ → ℕ → ℕ → Type 0
  Left total room k = room + 4 + length (flat_map encode xs) ≡ total + length (flat_map encode (drop k xs))

  whole : length (encode_table encode xs) ≡ 4 + length (flat_map encode xs)
  whole = omega (arith, length-append (encode_number (length xs)) (flat_map encode xs), number_long (length xs))

  -- how many bytes the entries from an index on take
  need_next : (k : ℕ) (x : X) → k < length xs → x ≡ get_or xs k x → length (flat_map encode (drop k xs)) ≡ length (encode x) + length (flat_map encode (drop (k + 1) xs))
  need_next k x lt is =
      let split : drop k xs ≡ x ∷ drop (k + 1) xs = rw (add-one, drop-cons xs k x lt, ← is) refl in
      ap (λ ys. length (flat_map encode ys)) split ∙ ap length (flat_map-cons encode x (drop (k + 1) xs)) ∙ length-append (encode x) (flat_map encode (drop (k + 1) xs))

  pub no_count : (total : ℕ) (r : Option ℕ) → r ≡ None → (4 ≤ total → ⊥) → Leaves total (encode_table encode xs) r
  no_count total r none short = none_left (encode_table encode xs) r total none (omega (arith, whole, short))

  pub no_entry : (total room k : ℕ) (x : X) (r : Option ℕ) → r ≡ None → Left total room k → k < length xs → x ≡ get_or xs k x → room < length (encode x) → Leaves total (encode_table encode xs) r
  no_entry total room k x r none left lt is short = none_left (encode_table encode xs) r total none (omega (arith, whole, left, short, need_next k x lt is))

  pub all_left : (total room k : ℕ) → Left total room k → length xs ≤ k → room + length (encode_table encode xs) ≡ total
  all_left total room k left le = omega (arith, whole, left, ap (λ ys. length (flat_map encode ys)) (drop_all k xs le))

  pub all_fit : (k : ℕ) → length xs ≤ k → k ≤ 16777216 → AllByRecursion fits (take k xs) → TableFits fits xs
  all_fit k le few each = record { count = omega arith; each = subst (AllByRecursion fits) (take_all k xs le) each }

-- what so many words take
pub words_long : (ws : List ℕ) → length (flat_map encode_number ws) ≡ 4 * length ws
words_long [] = refl
words_long (w ∷ ws) = omega (arith, ap length (flat_map-cons encode_number w ws), length-append (encode_number w) (flat_map encode_number ws), number_long w, words_long ws)
