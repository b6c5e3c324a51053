use Rattle.std.proofs.Common.{◌≡◌, ◌*◌, length, take}
use Rattle.wedge_base.specs.Images.{page}
use Rattle.cow_pages.specs.SharedPages.{HaveLength, contents, bytes_in, zero_padded}
use Rattle.cow_pages.proofs.pages.Pages.new.Given as goal

abbrev pub invariant-loop-k : goal.invariant-loop-k
invariant-loop-k l = record {
  count : length l.pages.items ≡ l.k;
  whole : HaveLength page (contents l.pages.items);
  so_far : bytes_in l.pages.items ≡ take (l.k * page) (zero_padded l.content (l.count * page));
}
