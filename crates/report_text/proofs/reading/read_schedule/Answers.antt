use Rattle.std.proofs.Common.{arith}
use Rattle.std.proofs.lemmas.Grind.{common_steps}
use Rattle.report_text.proofs.Readings.{line_next, line_stops, canonical}
use Rattle.report_text.proofs.reading.read_schedule.Goals as goal

pub returns-in_default-2-clause-exact : goal.returns-in_default-2-clause-exact
returns-in_default-2-clause-exact c = grind (arith, common_steps, line_stops c.loop-line.names.items c.in-Some.line.now c.in-Some.after.now)

pub loop-line-preserved : goal.loop-line-preserved
loop-line-preserved c = grind (arith, common_steps, line_next c.loop-line.names.items c.in-Some.line.now c.in-Some.after.now c.in-Some-2.name)

pub returns-clause-canonical : goal.returns-clause-canonical
returns-clause-canonical c = canonical c.args.bytes.now c.loop-line.names.items (grind (arith, common_steps))
