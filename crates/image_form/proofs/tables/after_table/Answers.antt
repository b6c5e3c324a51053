use Rattle.std.proofs.Common.{arith}
use Rattle.image_form.proofs.Measures.{no_count, no_entry, all_left, all_fit}
use Rattle.image_form.proofs.tables.after_table.Goals as goal

pub returns-in_err-room-clause-leaves : goal.returns-in_err-room-clause-leaves
returns-in_err-room-clause-leaves g c =
    let t = g.T.TableEntry in
    no_count t.encode t.fits c.args.entries.now c.args.room c.from_residual.result c.from_residual.ensures c.in_err-room.ensures

pub returns-in_err-room-2-clause-leaves : goal.returns-in_err-room-2-clause-leaves
returns-in_err-room-2-clause-leaves g c =
    let t = g.T.TableEntry in
    let loop = c.loop-entry in
    no_entry t.encode t.fits c.args.entries.now c.args.room loop.room loop.entry-index c.entry-item.result c.from_residual-in_err-room-2.result c.from_residual-in_err-room-2.ensures loop.invariant.left c.loop-entry-test.true c.entry-item.is c.in_err-room-2.ensures.leaves

pub returns-clause-leaves : goal.returns-clause-leaves
returns-clause-leaves g c =
    let t = g.T.TableEntry in
    let loop = c.loop-entry in
    all_left t.encode t.fits c.args.entries.now c.args.room loop.room loop.entry-index loop.invariant.left c.loop-entry-test.false

pub returns-clause-fits : goal.returns-clause-fits
returns-clause-fits g c =
    let t = g.T.TableEntry in
    let loop = c.loop-entry in
    all_fit t.encode t.fits c.args.entries.now loop.entry-index c.loop-entry-test.false (omega (arith, loop.invariant.less, c.requires)) loop.invariant.each
