use Rattle.run_laws.proofs.SortedDrafts.{drafts_sorted}
use Rattle.run_laws.proofs.laws.drafts_are_sorted.Goals as goal

pub returns : goal.returns
returns c = drafts_sorted
