use Rattle.std.proofs.Common.{arith}
use Rattle.run_audit.proofs.CountedLogs.{counts_end}
use Rattle.run_audit.proofs.caches.counts_of.Goals as goal

pub returns : goal.returns
returns c =
    let more = c.loop-line-test.false in
    counts_end c.loop-line.counts.items c.args.logs.now c.in_ok-sorted.sorted.items c.args.lines.now c.loop-line.line-index (omega (arith, more)) c.in_ok-sorted.ensures.stable c.loop-line.invariant
