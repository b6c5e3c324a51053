use Rattle.std.proofs.Common.{sym, subst}
use Rattle.wedge_events.specs.Gates.{GateFits, gate_reply, gate_next, gate_opening}
use Rattle.journal_cell.specs.Histories.{IsHistory}
use Rattle.run_cells.proofs.gate_cells.GateCell.into_history.Goals as goal

pub returns : goal.returns
returns g c = subst (λ es. IsHistory GateFits gate_reply gate_next gate_opening 0 es) (sym c.new.ensures) c.into_parts-name.ensures.legal
