use Rattle.grant_sheet.proofs.Keys.{fds_rising}
use Rattle.grant_sheet.proofs.sheet.root_fds.Goals as goal

pub from_entries-requires : goal.from_entries-requires
from_entries-requires c =
    let l = c.loop-fd in
    fds_rising l.bits.items c.args.fds.now l.number l.fd-index c.loop-fd-test.false l.invariant.made
