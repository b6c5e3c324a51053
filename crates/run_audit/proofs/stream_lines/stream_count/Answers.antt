use Rattle.std.proofs.Common.{arith}
use Rattle.run_audit.proofs.StreamsOver.{streams_count}
use Rattle.run_audit.proofs.stream_lines.stream_count.Goals as goal

pub returns-else-declared-gt-MOST_FDS : goal.returns-else-declared-gt-MOST_FDS
returns-else-declared-gt-MOST_FDS c = streams_count c.args.image.now (let few = c.fds.ensures.valid.fds.not_too_many in omega (arith, few))
