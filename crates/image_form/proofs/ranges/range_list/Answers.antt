use Rattle.std.proofs.Common.{refl}
use Rattle.std.proofs.lemmas.Result.{err_from_is_err_and}
use Rattle.image_form.specs.Reading.{range_entry_at}
use Rattle.image_form.proofs.Loop.{goes_on, ends, is_done}
use Rattle.image_form.proofs.ranges.range_list.Goals as goal

pub returns-in_err-range : goal.returns-in_err-range
returns-in_err-range c =
    let p = err_from_is_err_and c.from_residual.result c.from_residual.ensures.1 in
    rw (p.1, p.2) (ends (range_entry_at c.args.text.base c.args.text.count c.args.total) c.in_err-range.field-0.0 c.loop.before.ranges.items c.loop.before.ranges.items c.args.count c.loop.counter c.loop.rest.now _ refl c.loop-test.true c.in_err-range.ensures.is c.loop.invariant)

pub loop-preserved : goal.loop-preserved
loop-preserved c =
    rw c.in_ok-push.ensures (goes_on (range_entry_at c.args.text.base c.args.text.count c.args.total) c.loop.before.ranges.items c.loop.before.ranges.items c.args.count c.loop.counter c.loop.rest.now c.in_ok-range.range c.in_ok-range.after.now _ refl c.loop-test.true c.in_ok-range.ensures.is c.loop.invariant)

pub returns : goal.returns
returns c = is_done (range_entry_at c.args.text.base c.args.text.count c.args.total) c.loop.before.ranges.items c.args.count c.loop.counter c.loop.rest.now _ c.loop-test.false c.loop.invariant
