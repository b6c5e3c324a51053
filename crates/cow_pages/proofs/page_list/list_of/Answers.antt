use Rattle.std.proofs.Common.{◌<◌, ◌+◌, ◌++◌, ◌∷◌, [], ◌∙◌, List, ℕ, length, ap, sym, arith}
use Rattle.std.proofs.lemmas.List.{length_push}
use Rattle.wedge_base.specs.Pages.{PageAt, pages_before}
use Rattle.cow_pages.specs.SharedPages.{bytes_in}
use Rattle.cow_pages.proofs.PageLists.{next_listed}
use Rattle.cow_pages.proofs.page_list.list_of.Goals as goal

pub loop-k-preserved : goal.loop-k-preserved
loop-k-preserved c =
    let lt : c.loop-k.k < length c.args.pages.now = omega arith in
    let is = c.in_ok-push.ensures.items
    ∙ ap (λ (l : List PageAt). l ++ record { place = c.loop-k.k; bytes = c.in_ok-clone.field-0.value } ∷ []) c.loop-k.invariant.is
    ∙ ap (λ (b : List ℕ). pages_before (bytes_in c.args.pages.now) c.loop-k.k ++ record { place = c.loop-k.k; bytes = b } ∷ []) (c.in_ok-clone.ensures.cases)
    ∙ sym (next_listed c.args.pages.now c.loop-k.k c.index-pages-k.result c.requires.whole lt c.index-pages-k.is) in
    record { is = is; len = ap length c.in_ok-push.ensures.items ∙ length_push c.loop-k.items.items _ ∙ ap (λ (n : ℕ). n + 1) c.loop-k.invariant.len }
