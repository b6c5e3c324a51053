-- The equality of private memory decides whether it is the same.
use Rattle.std.proofs.Common.{◌≡◌, true, ◌↔◌, refl}
use Rattle.wedge_base.specs.declared.image.MemoryRange.{MemoryRange}
use Rattle.cow_pages.specs.Copies.{Copies}
use Rattle.cow_pages.specs.Equality.{is_same_memory}
use Rattle.cow_pages.specs.PrivateMemory.{PrivateMemory}
use Rattle.cow_pages.proofs.Deciding.{Decider, number, list_of, more, seen_by}

abbrev range : Decider MemoryRange
range = seen_by (λ (r : MemoryRange). (r.base, r.bytes)) (λ p. record { base = p.0; bytes = p.1 }) (λ r. refl) (more number (list_of number))

abbrev copies : Decider Copies
copies = list_of (more number (list_of number))

abbrev memory : Decider PrivateMemory
memory = seen_by (λ (m : PrivateMemory). (m.ranges, m.copies)) (λ p. record { ranges = p.0; copies = p.1 }) (λ m. refl) (more (list_of range) copies)

pub same_memory : (a b : PrivateMemory) → (is_same_memory a b ≡ true) ↔ (a ≡ b)
same_memory = memory.decides
