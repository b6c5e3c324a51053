-- The orders of loads and of candidates are orders: one way, and in chains.
use Rattle.std.specs.Cmp.{IsStrictWeakOrder, then_total, on_total, nat_cmp_total}
use Rattle.std.specs.Cmp.Lexicographic.{nat_list_cmp_total}
use Rattle.std.proofs.lemmas.List.Sorted.{ranks_by, IsStrictWeakOrder-by_number}
use Rattle.elf_in.specs.Loads.{base_of, load_before}
use Rattle.elf_in.specs.Procedures.{candidate_before}

pub load_order : IsStrictWeakOrder load_before
load_order = IsStrictWeakOrder-by_number base_of

pub candidate_order : IsStrictWeakOrder candidate_before
candidate_order =
    ranks_by (then_total (on_total (λ c. c.address) nat_cmp_total) (on_total (λ c. c.name) nat_list_cmp_total))
    (λ c. c)
