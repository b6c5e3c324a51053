use Rattle.std.proofs.Common.{◌≡◌, ◌++◌, drop}
use Rattle.wedge_base.specs.Sheets as sheets
use Rattle.grant_sheet.proofs.sheet.root_fds.Given as goal

-- the number of the next descriptor is its index, and its bits and those of the ones after it are missing
abbrev pub invariant-loop-fd : goal.invariant-loop-fd
invariant-loop-fd l = record {
  index : l.number ≡ l.fd-index;
  made : l.bits.items ++ sheets.root_fds l.number (drop l.fd-index l.fds) ≡ sheets.root_fds 0 l.fds;
}
