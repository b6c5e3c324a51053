use Rattle.std.specs.Ordering.{nat_cmp}
use Rattle.std.specs.BTreeSet.{contains}
use Rattle.std.proofs.lemmas.Result.{err_from_is_err_and}
use Rattle.image_form.specs.Reading.{procedure_at}
use Rattle.image_form.proofs.Loop.{goes_on, ends, is_done}
use Rattle.image_form.proofs.Seen.{gains}
use Rattle.image_form.proofs.procedures.procedure_list.Goals as goal

pub returns-in_err-procedure : goal.returns-in_err-procedure
returns-in_err-procedure c =
    let entry = procedure_at c.args.text.base c.args.text.count c.args.total in
    let p = err_from_is_err_and c.from_residual.result c.from_residual.ensures.1 in
    rw (p.1, p.2) (ends entry c.in_err-procedure.field-0.0 c.deref.result.now c.loop.procedures.items c.args.count c.loop.counter c.loop.rest.now _ c.deref.ensures.value c.loop-test.true c.in_err-procedure.ensures c.loop.invariant.so_far)

pub loop-preserved : goal.loop-preserved
loop-preserved c =
    let entry = procedure_at c.args.text.base c.args.text.count c.args.total in
    let p = c.in_ok-procedure.procedure in
    rw c.in_ok-push.ensures.items (record {
      known = λ q. gains c.loop.procedures.items p q (contains nat_cmp c.loop.seen q) (contains nat_cmp c.insert.new.self q) (c.loop.invariant.known q) (c.in_ok-insert.ensures.updates.0 q);
      so_far = goes_on entry c.deref.result.now c.loop.procedures.items c.args.count c.loop.counter c.loop.rest.now p c.in_ok-procedure.after.now _ c.deref.ensures.value c.loop-test.true c.in_ok-procedure.ensures c.loop.invariant.so_far;
    })

pub returns : goal.returns
returns c = is_done (procedure_at c.args.text.base c.args.text.count c.args.total) c.loop.procedures.items c.args.count c.loop.counter c.loop.rest.now _ c.loop-test.false c.loop.invariant.so_far
