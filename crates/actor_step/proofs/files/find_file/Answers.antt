use Rattle.std.proofs.Common.{sym, subst}
use Rattle.file_tree.specs.Lookup.{AreAscending}
use Rattle.machine.proofs.FilesAscend.{ascending}
use Rattle.actor_step.proofs.files.find_file.Goals as goal

-- the files of an image ascend
pub file_at-requires : goal.file_at-requires
file_at-requires c = subst AreAscending (sym c.files.ensures.is) (ascending c.args.image.now.files c.files.ensures.valid.files.paths_ascend)
