use Rattle.std.proofs.Common.{◌≡◌, ◌+◌, ◌*◌, ◌++◌, ◌∙◌, ap, sym, arith, length, take, ℕ, List}
use Rattle.std.specs.Arc.{arc_value}
use Rattle.std.proofs.lemmas.List.{length_push, take_all}
use Rattle.wedge_base.specs.Images.{page}
use Rattle.cow_pages.specs.SharedPages.{zero_padded, page_from}
use Rattle.cow_pages.proofs.PaddedContent.{next_page, bytes_in-push, whole-push, length-page_from, length-zero_padded}
use Rattle.cow_pages.proofs.pages.Pages.new.Goals as goal

pub loop-k-preserved : goal.loop-k-preserved
loop-k-preserved c =
    let ps = c.loop-k.pages.items in
    let a = c.in_ok-page.page in
    let is : arc_value a ≡ page_from c.args.content.now (c.loop-k.k * page) = c.in_ok-page.ensures.is in
    rw c.in_ok-push.ensures.items (record {
      count = length_push ps a ∙ ap (λ (n : ℕ). n + 1) c.loop-k.invariant.count;
      whole = whole-push ps a c.loop-k.invariant.whole (ap length is ∙ length-page_from c.args.content.now (c.loop-k.k * page));
      so_far = bytes_in-push ps a ∙ ap (λ (z : List ℕ). z ++ arc_value a) c.loop-k.invariant.so_far
          ∙ ap (λ (z : List ℕ). take (c.loop-k.k * page) (zero_padded c.args.content.now (c.args.count * page)) ++ z) is
          ∙ sym (next_page c.args.content.now c.args.count c.loop-k.k c.requires c.loop-k-test.true);
    })

pub returns : goal.returns
returns c =
    let end : c.loop-k.k ≡ c.args.count = omega arith in
    let size = length-zero_padded c.args.content.now (c.args.count * page) c.requires in
    let is = c.loop-k.invariant.so_far ∙ take_all (c.loop-k.k * page) (zero_padded c.args.content.now (c.args.count * page)) (rw end (omega arith)) in
    record { is = is; len = ap length is ∙ size }
