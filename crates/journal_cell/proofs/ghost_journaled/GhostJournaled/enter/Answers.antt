use Rattle.std.proofs.Common.{rules}
use Rattle.std.specs.Prelude.{◌+◌}
use Rattle.journal_cell.proofs.Histories.{entry-keeps}
use Rattle.journal_cell.proofs.ghost_journaled.GhostJournaled.enter.Goals as goal

pub invariant_of-self-2 : goal.invariant_of-self-2
invariant_of-self-2 g c =
    entry-keeps (g.O.Object.fits g.I.RunOf.image) g.O.Object.reply g.O.Object.next (g.O.Object.opening g.I.RunOf.image c.self.inside.name)
    c.self.inside.state c.act_once.new.self c.self.inside.clock c.self.inside.history c.push.new.self
    (record { stamp = c.clock.inside.0 + 1; actor = c.args.pass.now.name.now; ask = c.args.ask; reply = g.O.Object.reply c.self.inside.state c.args.ask })
    c.self.invariant
    (search rules) (search rules) (search rules) (search rules) (search rules)
