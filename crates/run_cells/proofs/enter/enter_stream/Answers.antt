use Rattle.std.proofs.Common.{sym, subst}
use Rattle.run_laws.proofs.Placing.{gives_inside}
use Rattle.run_cells.specs.Entries.{IsPlainEntry}
use Rattle.run_cells.proofs.EntriesFit.{stream_plain}
use Rattle.run_cells.proofs.enter.enter_stream.Goals as goal

pub returns-clause-plain : goal.returns-clause-plain
returns-clause-plain g c =
    let q = c.args.ask in
    let k = c.deref_mut-locked.result.now in
    subst (IsPlainEntry g.I.RunOf.image c.args.run.now.progress) (sym c.stream_entry.ensures)
    (stream_plain g.I.RunOf.image c.args.run.now.progress c.args.fd q k c.pass_of-pass.result c.in_ok-entry.entry
    c.requires.wants (gives_inside c.args.fd k.state q) c.in_ok-entry.ensures.named c.pass_of-pass.ensures.name c.pass_of-pass.ensures.clock c.in_ok-entry.ensures.entry c.in_ok-entry.ensures.legal)
