use Rattle.std.proofs.Common.{rules}
use Rattle.journal_cell.specs.Histories.{IsKeptCell}
use Rattle.ruled_cell.proofs.WholeTurn.{had_cell, answers, ends_idle, ends_visited, ends_entered, ends_err}
use Rattle.ruled_cell.proofs.cells.RuledCells.take_turn.Goals as goal

pub act-entry-requires : goal.act-entry-requires
act-entry-requires g c = let w = c.wait.ensures.served in let d = c.requires.ticket in
    record { table = search rules; has_cell = (w.1, had_cell _ _ _ c.args.cell c.args.seat.now.me c.wait.new.seat.me d.1 d.6 w); fits = c.requires.fits }

pub pass_on-requires : goal.pass_on-requires
pass_on-requires g c = record {
  table = search rules;
  turn = answers _ _ _ g.O.Object.reply g.O.Object.next (IsKeptCell (g.O.Object.fits g.I.RunOf.image) g.O.Object.reply g.O.Object.next (g.O.Object.opening g.I.RunOf.image)) (g.M.AskMaker.makes c.args.maker.now) (g.M.AskMaker.finds c.args.maker.now) c.args.actor.now c.args.cell c.args.ticket c.args.seat.now.me c.wait.new.seat.me c.act-entry.new.seat.me c.requires.ticket c.wait.ensures.served c.act-entry.ensures.same.2 c.act-entry.result c.act-entry.ensures.ok c.act-entry.ensures.err;
}

pub returns-clause-idle : goal.returns-clause-idle
returns-clause-idle g c = ends_idle _ _ _ g.O.Object.reply g.O.Object.next (IsKeptCell (g.O.Object.fits g.I.RunOf.image) g.O.Object.reply g.O.Object.next (g.O.Object.opening g.I.RunOf.image)) (g.M.AskMaker.makes c.args.maker.now) (g.M.AskMaker.finds c.args.maker.now) c.args.actor.now c.args.cell c.args.ticket c.args.seat.now.me c.wait.new.seat.me c.act-entry.new.seat.me c.requires.ticket c.wait.ensures.served c.act-entry.ensures.same.2 c.pass_on.new.seat.me c.pass_on.ensures.visit c.act-entry.result c.act-entry.ensures.ok c.act-entry.ensures.err

pub returns-clause-visit : goal.returns-clause-visit
returns-clause-visit g c = ends_visited _ _ _ g.O.Object.reply g.O.Object.next (IsKeptCell (g.O.Object.fits g.I.RunOf.image) g.O.Object.reply g.O.Object.next (g.O.Object.opening g.I.RunOf.image)) (g.M.AskMaker.makes c.args.maker.now) (g.M.AskMaker.finds c.args.maker.now) c.args.actor.now c.args.cell c.args.ticket c.args.seat.now.me c.wait.new.seat.me c.act-entry.new.seat.me c.requires.ticket c.wait.ensures.served c.act-entry.ensures.same.2 c.pass_on.new.seat.me c.pass_on.ensures.visit c.act-entry.result c.act-entry.ensures.ok

pub returns-clause-entry : goal.returns-clause-entry
returns-clause-entry g c = ends_entered _ _ _ g.O.Object.reply g.O.Object.next (IsKeptCell (g.O.Object.fits g.I.RunOf.image) g.O.Object.reply g.O.Object.next (g.O.Object.opening g.I.RunOf.image)) (g.M.AskMaker.makes c.args.maker.now) (g.M.AskMaker.finds c.args.maker.now) c.args.actor.now c.args.cell c.args.ticket c.args.seat.now.me c.wait.new.seat.me c.act-entry.new.seat.me c.requires.ticket c.wait.ensures.served c.act-entry.ensures.same.2 c.pass_on.new.seat.me c.pass_on.ensures.visit c.act-entry.result c.act-entry.ensures.ok

pub returns-clause-err : goal.returns-clause-err
returns-clause-err g c = ends_err _ _ _ g.O.Object.reply g.O.Object.next (IsKeptCell (g.O.Object.fits g.I.RunOf.image) g.O.Object.reply g.O.Object.next (g.O.Object.opening g.I.RunOf.image)) (g.M.AskMaker.makes c.args.maker.now) (g.M.AskMaker.finds c.args.maker.now) c.args.actor.now c.args.cell c.args.ticket c.args.seat.now.me c.wait.new.seat.me c.act-entry.new.seat.me c.requires.ticket c.wait.ensures.served c.act-entry.ensures.same.2 c.pass_on.new.seat.me c.pass_on.ensures.visit c.act-entry.result c.act-entry.ensures.err
