use Rattle.std.proofs.Common.{◌≡◌, ◌++◌, drop}
use Rattle.part_toml.specs.Parts.{numbered_equates, fd_equate}
use Rattle.part_toml.proofs.equates.push_fds.Given as goal

abbrev pub invariant-loop-fd : goal.invariant-loop-fd
invariant-loop-fd l = l.equates.items ++ numbered_equates fd_equate l.place (drop l.fd-index l.fds) ≡ l.initial.equates.items ++ numbered_equates fd_equate 0 l.fds
