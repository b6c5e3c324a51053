use Rattle.std.proofs.Common.{◌≡◌, map, take}
use Rattle.wedge_base.specs.Images.{page}
use Rattle.cow_pages.specs.SharedPages.{HaveLength, contents}
use Rattle.cow_pages.proofs.page_list.pages_in.Given as goal

abbrev pub invariant-loop-item : goal.invariant-loop-item
invariant-loop-item l = record {
  is : contents l.pages.items ≡ map (λ p. p.bytes) (take l.item-index l.list);
  whole : HaveLength page (contents l.pages.items);
}
