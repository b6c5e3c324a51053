-- The tests that run along a table: ascending texts, addresses that differ, ranges apart.
use Rattle.std.proofs.Common.{◌≡◌, ℕ, ◌+◌, ◌≤◌, ◌<◌, ◌*◌, ◌%◌, true, ◌&&◌, not, leb, List, [], ◌∷◌, ◌++◌, length, map, refl, sym, ap, ◌∙◌, arith}
use Rattle.std.specs.List.{sum_by, list_all}
use Rattle.std.proofs.lemmas.Bool.{leb-true}
use Rattle.std.proofs.lemmas.Bool.Decides.{nat_tests}
use Rattle.std.proofs.lemmas.List.{map-append}
use Rattle.std.proofs.lemmas.List.Sums.{sum_by-append, sum_by-cons}
use Rattle.wedge_base.specs.declared.image.MemoryRange.{MemoryRange}
use Rattle.image_form.specs.Forms.{is_below, ascend_from, is_entry_path, is_root}
use Rattle.wedge_base.specs.Paths.{is_canonical}
use Rattle.wedge_base.specs.Texts.{is_name, starts_name, continues_name}
use Rattle.wedge_base.specs.Maps.{is_among}
use Rattle.image_form.specs.Rules.{high_end, low_end, most_range_bytes, addresses, differ_from, range_end, is_off_text, lie_apart}
use Rattle.wedge_base.specs.Images.{is_text_address}
use Rattle.image_form.specs.Reading.{last_of, is_base, is_word_count, is_range_length}
use Rattle.image_form.proofs.Lasts.{last_of-push}
use Rattle.image_form.proofs.TableForms.{Each, IsScan, both}

pub names_scan : {X : Type 0} (key : X → List ℕ) → IsScan (last_of key []) (λ b x. is_below b (key x)) (λ b xs. ascend_from b (map key xs))
names_scan key = record {
  none = λ b. refl;
  more = λ front x xs. ap (λ b. is_below (last_of key [] front) (key x) && ascend_from b (map key xs)) (sym (last_of-push key [] front x));
}

pub addresses_scan : IsScan addresses (λ ns p. not (is_among ns p.address)) (λ ns ps. differ_from ns (addresses ps))
addresses_scan = record {
  none = λ ns. refl;
  more = λ front p ps. ap (λ ns. not (is_among (addresses front) p.address) && differ_from ns (addresses ps)) (sym (map-append (λ x. x.address) front (p ∷ [])));
}

pub ranges_scan : (base count : ℕ) → IsScan (last_of range_end 0) (λ e r. leb e r.base && is_off_text base count r.base (length r.bytes)) (lie_apart base count)
ranges_scan base count = record {
  none = λ e. refl;
  more = λ front r rs. ap (λ e. (leb (last_of range_end 0 front) r.base && is_off_text base count r.base (length r.bytes)) && lie_apart base count e rs) (sym (last_of-push range_end 0 front r));
}

-- ---- sums

abbrev pub size_of : MemoryRange → ℕ
size_of r = length r.bytes

pub sum_there : (Rest : List MemoryRange → MemoryRange → Type 0) (front rs : List MemoryRange)
    → Each (λ f r. (leb (sum_by size_of f + size_of r) most_range_bytes ≡ true) × Rest f r) front rs → sum_by size_of front ≤ most_range_bytes
    → (sum_by size_of front + sum_by size_of rs ≤ most_range_bytes) × Each Rest front rs
sum_there Rest front [] each small = (omega arith, tt)
sum_there Rest front (r ∷ rs) each small =
    let grown : sum_by size_of (front ++ r ∷ []) ≡ sum_by size_of front + size_of r = sum_by-append size_of front (r ∷ []) ∙ omega arith in
    let here : sum_by size_of front + size_of r ≤ most_range_bytes = leb-true _ _ each.0.0 in
    let split : sum_by size_of (r ∷ rs) ≡ size_of r + sum_by size_of rs = sum_by-cons size_of r rs in
    let later = sum_there Rest (front ++ r ∷ []) rs each.1 (omega (arith, grown, here)) in
    (omega (arith, grown, split, later.0), (each.0.1, later.1))

pub sum_back : (Rest : List MemoryRange → MemoryRange → Type 0) (front rs : List MemoryRange)
    → sum_by size_of front + sum_by size_of rs ≤ most_range_bytes → Each Rest front rs
    → Each (λ f r. (leb (sum_by size_of f + size_of r) most_range_bytes ≡ true) × Rest f r) front rs
sum_back Rest front [] small each = tt
sum_back Rest front (r ∷ rs) small each =
    let grown : sum_by size_of (front ++ r ∷ []) ≡ sum_by size_of front + size_of r = sum_by-append size_of front (r ∷ []) ∙ omega arith in
    let split : sum_by size_of (r ∷ rs) ≡ size_of r + sum_by size_of rs = sum_by-cons size_of r rs in
    let here : sum_by size_of front + size_of r ≤ most_range_bytes = omega (arith, split, small) in
    ((grind (arith, nat_tests, here), each.0), sum_back Rest (front ++ r ∷ []) rs (omega (arith, grown, split, small)) each.1)

-- ---- tests of numbers

pub base_there : (n : ℕ) → is_base n ≡ true → (n % 4 ≡ 0) × (low_end ≤ n) × (n < high_end)
base_there n h = grind (arith, nat_tests)

pub base_back : (n : ℕ) → n % 4 ≡ 0 → low_end ≤ n → n < high_end → is_base n ≡ true
base_back n a b c = grind (arith, nat_tests)

pub word_count_there : (base n : ℕ) → is_word_count base n ≡ true → (1 ≤ n) × (base + 4 * n ≤ high_end)
word_count_there base n h = grind (arith, nat_tests)

pub word_count_back : (base n : ℕ) → 1 ≤ n → base + 4 * n ≤ high_end → is_word_count base n ≡ true
word_count_back base n a b = grind (arith, nat_tests)

pub address_there : (base count n : ℕ) → is_text_address base count n ≡ true → (n % 4 ≡ 0) × (base ≤ n) × (n < base + 4 * count)
address_there base count n h = grind (arith, nat_tests)

pub address_back : (base count n : ℕ) → n % 4 ≡ 0 → base ≤ n → n < base + 4 * count → is_text_address base count n ≡ true
address_back base count n a b c = grind (arith, nat_tests)

pub range_length_there : (base n : ℕ) → is_range_length base n ≡ true → (n % 4 ≡ 0) × (1 ≤ n) × (base + n ≤ high_end)
range_length_there base n h = grind (arith, nat_tests)

pub range_length_back : (base n : ℕ) → n % 4 ≡ 0 → 1 ≤ n → base + n ≤ high_end → is_range_length base n ≡ true
range_length_back base n a b c = grind (arith, nat_tests)

pub leb_there : (m n : ℕ) → leb m n ≡ true → m ≤ n
leb_there m n h = leb-true m n h

pub leb_back : (m n : ℕ) → m ≤ n → leb m n ≡ true
leb_back m n h = grind (arith, nat_tests)

-- ---- texts are short

pub name_short : (t : List ℕ) → is_name t ≡ true → length t < 65535
unfolding is_name
name_short [] h = absurd cc
name_short (c ∷ cs) h =
    let rules = both (leb (length cs) 63 && starts_name c) (list_all continues_name cs) h in
    omega (arith, leb-true (length cs) 63 (both (leb (length cs) 63) (starts_name c) rules.0).0)

pub path_short : (t : List ℕ) → is_entry_path t ≡ true → length t < 65535
unfolding is_entry_path
path_short t h =
    let sized = both (leb 2 (length t) && leb (length t) 255) (is_canonical t) h in
    omega (arith, leb-true (length t) 255 (both (leb 2 (length t)) (leb (length t) 255) sized.0).1)

pub root_short : (t : List ℕ) → is_root t ≡ true → length t < 65535
unfolding is_root
root_short t h =
    let sized = both (leb 1 (length t) && leb (length t) 255) (is_canonical t) h in
    omega (arith, leb-true (length t) 255 (both (leb 1 (length t)) (leb (length t) 255) sized.0).1)
