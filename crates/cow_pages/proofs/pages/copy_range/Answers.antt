use Rattle.std.proofs.Common.{◌+◌, ◌%◌, ◌<◌, ◌++◌, ◌/◌, ◌∙◌, ap, sym, arith, length, slice_range, ℕ, List}
use Rattle.wedge_base.specs.Images.{page}
use Rattle.cow_pages.specs.SharedPages.{bytes_in}
use Rattle.cow_pages.proofs.ListPieces.{range_further}
use Rattle.cow_pages.proofs.SharedPages.{length-bytes_in, read_shared}
use Rattle.cow_pages.proofs.pages.copy_range.Goals as goal

pub bounds-pages-next : goal.bounds-pages-next
bounds-pages-next c =
    let size = length-bytes_in c.args.pages.now c.requires.whole in
    omega arith

pub loop-next-preserved : goal.loop-next-preserved
loop-next-preserved c =
    let size = length-bytes_in c.args.pages.now c.requires.whole in
    let next = c.loop-next.next in
    let count = c.min-count.result in
    let on_page : next / page < length c.args.pages.now = omega arith in
    let read = read_shared c.args.pages.now next count c.index-pages-next.result c.requires.whole on_page (omega arith) c.index-pages-next.is in
    rw c.in_ok-extend_from_slice.ensures.items (record {
      from = omega arith;
      to = omega arith;
      so_far = ap (λ (z : List ℕ). c.loop-next.bytes.items ++ slice_range z (next % page) (next % page + count)) (c.as_slice.ensures.is ∙ c.deref-page.ensures)
          ∙ ap (λ (z : List ℕ). c.loop-next.bytes.items ++ z) (sym read)
          ∙ ap (λ (z : List ℕ). z ++ slice_range (bytes_in c.args.pages.now) next (next + count)) c.loop-next.invariant.so_far
          ∙ sym (range_further (bytes_in c.args.pages.now) c.args.start next (next + count) c.loop-next.invariant.from (omega arith));
    })
