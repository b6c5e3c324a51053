use Rattle.std.proofs.Common.{◌∙◌, ap}
use Rattle.std.proofs.lemmas.List.Sorted.{IsNonDecreasingBy-from_sort}
use Rattle.image_form.specs.Address.{greatest_from}
use Rattle.image_form.specs.Rules.{addresses}
use Rattle.run_notes.proofs.Greatest.{greatest_permuted}
use Rattle.run_notes.proofs.procedures.Procedures.new.Goals as goal

pub invariant_of-result : goal.invariant_of-result
invariant_of-result c = IsNonDecreasingBy-from_sort (λ y. y) c.sort_unstable.new.self.items c.sort_unstable.ensures.sorted

pub returns : goal.returns
returns c = λ address.
    greatest_permuted address c.in_ok-addresses.addresses.items c.sort_unstable.new.self.items c.sort_unstable.ensures.permutation
    ∙ (ap (greatest_from 0 address) c.in_ok-addresses.ensures ∙ ap (λ ps. greatest_from 0 address (addresses ps)) c.procedures.ensures.is)
