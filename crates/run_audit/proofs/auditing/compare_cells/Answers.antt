use Rattle.run_audit.specs.ComparedCells.{compared_histories}
use Rattle.run_audit.proofs.TwoHeads.{ok_map}
use Rattle.run_audit.proofs.Comparing.{compared_as}
use Rattle.run_audit.proofs.auditing.compare_cells.Goals as goal

pub returns : goal.returns
returns c = ok_map c.first_difference.result c.first_difference.ensures
    (λ r h. compared_as (compared_histories c.args.declared c.args.cells.now) c.in_ok-histories.histories.items c.as_slice.result.now c.args.journal.now c.in_ok-logged.logged.items c.as_slice-3.result.now c.in_ok-kept.kept.items c.as_slice-2.result.now r
    c.in_ok-histories.ensures.sorted c.in_ok-histories.ensures.stable c.as_slice.ensures.value c.in_ok-kept.ensures c.as_slice-2.ensures.value c.in_ok-logged.ensures.stable c.as_slice-3.ensures.value h)
