use Rattle.cow_pages.proofs.PageLists.{bytes_of_snap}
use Rattle.cow_pages.proofs.laws.snaps_are_the_bytes.Goals as goal

pub returns : goal.returns
returns c = bytes_of_snap
