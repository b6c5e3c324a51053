use Rattle.std.proofs.Common.{◌≡◌, ◌-◌, ◌≤◌, length, take}
use Rattle.wedge_base.specs.Bytes.{overwrite}
use Rattle.wedge_base.specs.Images.{page}
use Rattle.cow_pages.specs.SharedPages.{HaveLength, contents, bytes_in}
use Rattle.cow_pages.proofs.pages.write_pieces.Given as goal

abbrev pub invariant-loop-done : goal.invariant-loop-done
invariant-loop-done l = record {
  to : l.done ≤ length l.new;
  whole : HaveLength page (contents l.pages);
  so_far : bytes_in l.pages ≡ overwrite (bytes_in l.fn.pages) l.start (take l.done l.new);
}

abbrev pub decreases-loop-done : goal.decreases-loop-done
decreases-loop-done l = length l.new - l.done
