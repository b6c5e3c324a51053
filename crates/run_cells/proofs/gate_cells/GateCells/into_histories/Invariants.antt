use Rattle.std.specs.Prelude.{All}
use Rattle.thread_laws.specs.Replaying.{IsLegalHistory}
use Rattle.run_cells.specs.Prefixes.{IsPrefixOf}
use Rattle.run_cells.proofs.gate_cells.GateCells.into_histories.Given as goal

abbrev pub invariant-loop : goal.invariant-loop
invariant-loop g l = All (IsLegalHistory g.I.RunOf.image) l.histories.items × IsPrefixOf l.fn.histories.items l.histories.items
