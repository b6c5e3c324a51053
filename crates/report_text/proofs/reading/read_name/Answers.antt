use Rattle.std.proofs.Common.{rules}
use Rattle.report_text.specs.Schedules.{name_in}
use Rattle.report_text.proofs.reading.read_name.Goals as goal

pub loop-piece-init : goal.loop-piece-init
unfolding name_in
loop-piece-init c = search rules
