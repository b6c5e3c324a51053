use Rattle.std.proofs.Common.{◌≡◌, ◌<◌, ◌∙◌, length, ap, sym, arith}
use Rattle.std.specs.Arc.{arc_value}
use Rattle.wedge_base.specs.Images.{page}
use Rattle.wedge_base.specs.Pages.{PageAt}
use Rattle.cow_pages.proofs.PaddedContent.{whole-push}
use Rattle.cow_pages.proofs.PageLists.{next_taken}
use Rattle.cow_pages.proofs.page_list.pages_in.Goals as goal

pub loop-item-preserved : goal.loop-item-preserved
loop-item-preserved c =
    let lt : c.loop-item.item-index < length c.args.list.now = omega arith in
    let size : length (arc_value c.in_ok-clone.field-0) ≡ page = ap length (c.in_ok-clone.ensures.cases ∙ sym c.deref-page.ensures) ∙ c.as_slice.ensures.len in
    rw c.in_ok-push.ensures.items (record {
      is = next_taken c.loop-item.pages.items c.args.list.now c.loop-item.item-index c.in_ok-clone.field-0 c.item-item.result lt c.item-item.is (c.in_ok-clone.ensures.cases ∙ ap (λ (p : PageAt). p.bytes) c.item.view_is) c.loop-item.invariant.is;
      whole = whole-push c.loop-item.pages.items c.in_ok-clone.field-0 c.loop-item.invariant.whole size;
    })
