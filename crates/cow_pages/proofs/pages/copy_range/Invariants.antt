use Rattle.std.proofs.Common.{◌≡◌, ◌-◌, ◌≤◌, slice_range}
use Rattle.cow_pages.specs.SharedPages.{bytes_in}
use Rattle.cow_pages.proofs.pages.copy_range.Given as goal

abbrev pub invariant-loop-next : goal.invariant-loop-next
invariant-loop-next l = record {
  from : l.start ≤ l.next;
  to : l.next ≤ l.end;
  so_far : l.bytes.items ≡ slice_range (bytes_in l.pages) l.start l.next;
}

abbrev pub decreases-loop-next : goal.decreases-loop-next
decreases-loop-next l = l.end - l.next
