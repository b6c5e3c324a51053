-- Equality of memory, as `==` tests it.
use Rattle.std.specs.Prelude.{ℕ, ◌==◌, Bool, List}
use Rattle.std.specs.Cmp.{IsPartialEquivalence, partial_equiv_from_equiv, nat_eq_equiv, and_per, on_per}
use Rattle.std.specs.Cmp.Lexicographic.{pointwise, lists_per}
use Rattle.std.specs.Ordering.{on, eq_of_both}
use Rattle.wedge_base.specs.declared.image.MemoryRange.{MemoryRange}
use Rattle.cow_pages.specs.Copies.{Copies}
use Rattle.cow_pages.specs.PrivateMemory.{PrivateMemory}

-- whether the ranges begin at the same addresses and have the same bytes
abbrev pub are_same_ranges : List MemoryRange → List MemoryRange → Bool
are_same_ranges = pointwise (eq_of_both (on (λ r. r.base) ◌==◌) (on (λ r. r.bytes) (pointwise ◌==◌)))

-- whether the copies are at the same slots and have the same bytes
abbrev pub are_same_copies : Copies → Copies → Bool
are_same_copies = pointwise (eq_of_both (on (λ c. c.0) ◌==◌) (on (λ c. c.1) (pointwise ◌==◌)))

-- whether the ranges and the copies are the same
abbrev pub is_same_memory : PrivateMemory → PrivateMemory → Bool
is_same_memory = eq_of_both (on (λ m. m.ranges) are_same_ranges) (on (λ m. m.copies) are_same_copies)

-- it holds both ways round, and along a chain
pub same_memory_laws : IsPartialEquivalence is_same_memory
same_memory_laws =
    let number : IsPartialEquivalence {K = ℕ} ◌==◌ = partial_equiv_from_equiv nat_eq_equiv in
    let bytes : IsPartialEquivalence (pointwise {A = ℕ} ◌==◌) = lists_per number in
    let ranges : IsPartialEquivalence are_same_ranges = lists_per (and_per (on_per (λ (r : MemoryRange). r.base) number) (on_per (λ (r : MemoryRange). r.bytes) bytes)) in
    let copies : IsPartialEquivalence are_same_copies = lists_per (and_per (on_per (λ (c : ℕ × List ℕ). c.0) number) (on_per (λ (c : ℕ × List ℕ). c.1) bytes)) in
    and_per (on_per (λ (m : PrivateMemory). m.ranges) ranges) (on_per (λ (m : PrivateMemory). m.copies) copies)
