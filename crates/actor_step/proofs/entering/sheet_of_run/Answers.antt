use Rattle.std.proofs.Common.{ap, ◌∙◌}
use Rattle.wedge_base.specs.Sheets.{lent_to}
use Rattle.machine.proofs.SlotsHeld.{run_inside}
use Rattle.actor_step.proofs.entering.sheet_of_run.Goals as goal

pub returns-clause-placed : goal.returns-clause-placed
returns-clause-placed c =
    run_inside c.in_ok-run_sheet.field-0 c.args.gate.now.sheet c.in_ok-lent.lent (c.in_ok-run_sheet.ensures.sheet ∙ ap (lent_to c.args.gate.now.sheet) c.as_ref.ensures.value) c.requires.placed c.in_ok-lent.ensures.placed
