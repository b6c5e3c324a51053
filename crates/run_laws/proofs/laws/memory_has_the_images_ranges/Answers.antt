use Rattle.run_laws.proofs.ImagesRanges.{ranges_kept}
use Rattle.run_laws.proofs.laws.memory_has_the_images_ranges.Goals as goal

pub returns : goal.returns
returns c = ranges_kept
