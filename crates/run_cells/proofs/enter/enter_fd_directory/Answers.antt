use Rattle.std.proofs.Common.{sym, subst}
use Rattle.wedge_events.specs.Directories.{Directory, directory_reply}
use Rattle.wedge_events.specs.declared.events.Event.TheVariants as event
use Rattle.machine.specs.Between.{IsInBounds}
use Rattle.run_cells.specs.Entries.{IsPlainEntry}
use Rattle.run_cells.proofs.EntriesFit.{fd_directory_plain}
use Rattle.run_cells.proofs.enter.enter_fd_directory.Goals as goal

pub returns-clause-plain : goal.returns-clause-plain
returns-clause-plain g c =
    let q = c.args.ask in
    let bounds = subst (λ (s : Directory). IsInBounds (event.Fds q (directory_reply s q))) c.state.ensures c.assigns_fds.ensures in
    subst (IsPlainEntry g.I.RunOf.image c.args.run.now.progress) (sym c.fd_directory_entry.ensures)
    (fd_directory_plain g.I.RunOf.image c.args.run.now.progress q c.deref_mut-locked.result.now c.pass_of-pass.result c.in_ok-entry.entry
    c.requires.wants bounds c.pass_of-pass.ensures.name c.pass_of-pass.ensures.clock c.in_ok-entry.ensures.entry c.in_ok-entry.ensures.legal)
