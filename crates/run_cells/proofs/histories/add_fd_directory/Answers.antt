use Rattle.std.proofs.Common.{rules, ◌≡◌, [], ◌∷◌, ◌++◌, sym, subst}
use Rattle.wedge_events.specs.Directories.{DirectoryFits, directory_reply, directory_next, fds_opening}
use Rattle.journal_cell.specs.Histories.{IsHistory}
use Rattle.thread_laws.specs.declared.gathered.CellHistory.TheVariants as history
use Rattle.run_cells.proofs.Kept.{one_more}
use Rattle.run_cells.proofs.histories.add_fd_directory.Goals as goal

pub returns-clause-legal : goal.returns-clause-legal
returns-clause-legal g c =
    let i = g.I.RunOf.image in
    let kept = subst (λ es. IsHistory DirectoryFits directory_reply directory_next (fds_opening i) 0 es) (sym c.new.ensures) c.into_parts-history.ensures.legal in
    let is : c.push.new.self.items ≡ c.args.cells.now.items ++ history.Fds c.new.result ∷ [] = search rules in
    one_more i c.args.cells.now.items c.push.new.self.items (history.Fds c.new.result) is c.requires kept
