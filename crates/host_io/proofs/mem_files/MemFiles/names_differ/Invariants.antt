use Rattle.std.proofs.Common.{◌≡◌, length}
use Rattle.host_io.specs.Memory.{names_differ}
use Rattle.host_io.proofs.mem_files.MemFiles.names_differ.Given as goal

-- The answer is that of the files that are left.
abbrev pub invariant-loop-file : goal.invariant-loop-file
invariant-loop-file l = names_differ l.rest ≡ names_differ l.files

abbrev pub decreases-loop-file : goal.decreases-loop-file
decreases-loop-file l = length l.rest
