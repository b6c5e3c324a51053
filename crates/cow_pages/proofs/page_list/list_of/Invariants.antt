use Rattle.std.proofs.Common.{◌≡◌, length}
use Rattle.wedge_base.specs.Pages.{pages_before}
use Rattle.cow_pages.specs.SharedPages.{bytes_in}
use Rattle.cow_pages.proofs.page_list.list_of.Given as goal

abbrev pub invariant-loop-k : goal.invariant-loop-k
invariant-loop-k l = record {
  is : l.items.items ≡ pages_before (bytes_in l.pages) l.k;
  len : length l.items.items ≡ l.k;
}
