use Rattle.std.proofs.Common.{◌≡◌, ◌∙◌, ◌<◌, ◌≤◌, ◌-◌, ℕ, true, false, get_or, sym, ap, subst, arith, rules, leb}
use Rattle.std.specs.List.Sorted.{IsNonDecreasing}
use Rattle.std.proofs.lemmas.List.Sorted.{IsPartitionedBy-leb, IsPartitionPoint-from_clause}
use Rattle.image_form.specs.Address.{greatest_from}
use Rattle.run_notes.proofs.Greatest.{greatest_none, greatest_last}
use Rattle.run_notes.proofs.procedures.Procedures.proc_of.Goals as goal

above : (a b : ℕ) → leb a b ≡ false → b < a
above a b e = grind arith

within : (a b : ℕ) → leb a b ≡ true → a ≤ b
within a b e = grind arith

pub returns-then-count-eq0 : goal.returns-then-count-eq0
returns-then-count-eq0 c =
    let items = c.deref.result.now in
    let same : items ≡ c.self.inside.addresses.items = search rules in
    let rising : IsNonDecreasing items = subst IsNonDecreasing (sym same) c.self.invariant in
    let address = c.args.address in
    let parted = IsPartitionedBy-leb (λ y. y) items address rising in
    let point = IsPartitionPoint-from_clause (λ y. leb y address) _ _ c.partition_point-count.ensures.partitioned parted (λ a r q k. search rules) in
    let none : c.partition_point-count.result ≡ 0 = search rules in
    sym (ap (greatest_from 0 address) (sym (same ∙ c.self.view_is)) ∙ greatest_none address items (λ k d lt. above (get_or items k d) address (point.1 k d (omega (arith, none)) lt)))

pub returns : goal.returns
returns c =
    let items = c.deref.result.now in
    let same : items ≡ c.self.inside.addresses.items = search rules in
    let rising : IsNonDecreasing items = subst IsNonDecreasing (sym same) c.self.invariant in
    let address = c.args.address in
    let count = c.partition_point-count.result in
    let r = c.index.result.now in
    let parted = IsPartitionedBy-leb (λ y. y) items address rising in
    let point = IsPartitionPoint-from_clause (λ y. leb y address) _ _ c.partition_point-count.ensures.partitioned parted (λ a r q k. search rules) in
    let some : 0 < count = search rules in
    let bound = c.partition_point-count.ensures.bound in
    let is : r ≡ get_or items (count - 1) r = search rules in
    let low : get_or items (count - 1) r ≤ address = within (get_or items (count - 1) r) address (point.0 (count - 1) r (omega arith) (omega (arith, some))) in
    sym (ap (greatest_from 0 address) (sym (same ∙ c.self.view_is)) ∙ greatest_last address items count r rising some (omega (arith, bound)) is (omega (arith, is, low)) (λ k d le lt. above (get_or items k d) address (point.1 k d le lt)))
