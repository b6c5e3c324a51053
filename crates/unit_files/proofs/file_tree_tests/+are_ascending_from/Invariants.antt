use Rattle.std.proofs.Common.{length}
use Rattle.unit_files.proofs.file_tree_tests.+are_ascending_from.Given as goal

-- each call has one file less
abbrev pub decreases-are_ascending_from : goal.decreases-are_ascending_from
decreases-are_ascending_from l = length l.files.now
