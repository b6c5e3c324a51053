use Rattle.std.proofs.Common.{◌≡◌, ◌++◌, ◌∷◌, length}
use Rattle.std.specs.Prelude.{All}
use Rattle.std.specs.Vec.Iter.{into_iter_items, into_iter_len}
use Rattle.thread_laws.specs.KeptEntries.{IsKept}
use Rattle.gate_runner.proofs.gather.logs_of.Given as goal

abbrev pub invariant-loop-one : goal.invariant-loop-one
invariant-loop-one g l = record {
  is : l.logs.items ++ into_iter_items l.one-iterator ≡ l.fn.log ∷ l.fn.others.items;
  kept : All (IsKept g.I.RunOf.unkept) l.logs.items;
  len : into_iter_len l.one-iterator ≡ length (into_iter_items l.one-iterator);
}
