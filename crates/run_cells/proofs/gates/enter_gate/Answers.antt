use Rattle.wedge_events.specs.declared.cells.GateAsk.TheVariants as gate_ask
use Rattle.run_cells.specs.Entries.{IsCreatingEntry, IsKeptInGate, gate_entry_of}
use Rattle.run_cells.proofs.EntriesFit.{gate_entered, gate_kept, if_entry}
use Rattle.run_cells.proofs.gates.enter_gate.Goals as goal

pub returns-clause-entry : goal.returns-clause-entry
returns-clause-entry g c =
    let r = c.args.run.now.progress in
    if_entry (IsCreatingEntry g.I.RunOf.image r) (gate_entry_of c.args.gate c.in_ok-entry.entry) c.gate_entry.result c.gate_entry.ensures
    (gate_entered g.I.RunOf.image r c.args.gate c.args.child c.args.memory c.args.locked.now c.pass_of-pass.result c.in_ok-entry.entry
    c.requires.wants c.requires.fits c.affords_gate.ensures c.pass_of-pass.ensures.name c.pass_of-pass.ensures.clock c.in_ok-entry.ensures.entry c.in_ok-entry.ensures.legal)

pub returns-clause-kept : goal.returns-clause-kept
returns-clause-kept g c =
    let r = c.args.run.now.progress in
    let q = gate_ask.Enter c.args.child c.args.memory in
    let new = c.enter.new.self in
    if_entry (IsKeptInGate c.args.gate q r c.args.locked.now new) (gate_entry_of c.args.gate c.in_ok-entry.entry) c.gate_entry.result c.gate_entry.ensures
    (gate_kept c.args.gate q r c.args.locked.now new c.pass_of-pass.result c.in_ok-entry.entry
    c.pass_of-pass.ensures.name c.pass_of-pass.ensures.clock c.in_ok-entry.ensures.entry c.in_ok-entry.ensures.kept)
