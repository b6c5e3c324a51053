use Rattle.std.proofs.Common.{◌≡◌, ℕ, []}
use Rattle.std.specs.Ordering.{nat_cmp}
use Rattle.std.specs.BTreeSet.{contains}
use Rattle.wedge_base.specs.Maps.{is_among}
use Rattle.image_form.specs.Rules.{addresses}
use Rattle.image_form.specs.Reading.{procedure_at, entries_at}
use Rattle.image_form.proofs.Loop.{SoFar}
use Rattle.image_form.proofs.procedures.procedure_list.Given as goal

abbrev pub invariant-loop : goal.invariant-loop
invariant-loop l = record {
  known : (q : ℕ) → contains nat_cmp l.seen q ≡ is_among (addresses l.procedures.items) q;
  so_far : SoFar (procedure_at l.text.base l.text.count l.total) l.count l.counter l.procedures.items l.rest (entries_at (procedure_at l.text.base l.text.count l.total) l.count [] l.bytes);
}
