use Rattle.std.proofs.Common.{◌≡◌, ◌-◌, ◌≤◌, take}
use Rattle.cow_pages.specs.SharedPages.{bytes_in}
use Rattle.cow_pages.proofs.pages.begin_alike.Given as goal

abbrev pub invariant-loop-next : goal.invariant-loop-next
invariant-loop-next l = record {
  to : l.next ≤ l.size;
  alike : take l.next (bytes_in l.left) ≡ take l.next (bytes_in l.right);
}

abbrev pub decreases-loop-next : goal.decreases-loop-next
decreases-loop-next l = l.size - l.next
