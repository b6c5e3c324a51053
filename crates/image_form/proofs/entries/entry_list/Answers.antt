use Rattle.std.proofs.Common.{[], arith}
use Rattle.std.proofs.lemmas.Result.{err_from_is_err_and}
use Rattle.image_form.specs.Reading.{entries_at}
use Rattle.image_form.proofs.Loop.{goes_on, ends, is_done}
use Rattle.image_form.proofs.entries.entry_list.Goals as goal

pub returns-in_err-entry-clause-is : goal.returns-in_err-entry-clause-is
returns-in_err-entry-clause-is g c =
    let p = err_from_is_err_and c.from_residual.result c.from_residual.ensures.1 in
    let all = entries_at (g.T.ReadEntry.entry_at c.args.total) c.args.count [] c.args.bytes.now in
    rw (p.1, p.2) (ends (g.T.ReadEntry.entry_at c.args.total) c.in_err-entry.field-0.0 c.deref.result.now c.loop.entries.items c.args.count c.loop.counter c.loop.rest.now all c.deref.ensures.value c.loop-test.true c.in_err-entry.ensures c.loop.invariant.so_far)

pub loop-preserved : goal.loop-preserved
loop-preserved g c = record {
  long = omega (arith, c.in_ok-push.ensures.len);
  so_far = rw c.in_ok-push.ensures.items (goes_on (g.T.ReadEntry.entry_at c.args.total) c.deref.result.now c.loop.entries.items c.args.count c.loop.counter c.loop.rest.now c.in_ok-entry.entry c.in_ok-entry.after.now _ c.deref.ensures.value c.loop-test.true c.in_ok-entry.ensures c.loop.invariant.so_far);
}

pub returns-clause-is : goal.returns-clause-is
returns-clause-is g c = is_done (g.T.ReadEntry.entry_at c.args.total) c.loop.entries.items c.args.count c.loop.counter c.loop.rest.now _ c.loop-test.false c.loop.invariant.so_far
