use Rattle.std.proofs.Common.{◌+◌, ◌%◌, ◌∙◌, ap, sym, arith, length, slice_range, ℕ, List}
use Rattle.wedge_base.specs.Bytes.{number_of}
use Rattle.wedge_base.specs.Images.{page}
use Rattle.cow_pages.proofs.PageOffsets.{in_one_page, on_some_page, width_positive}
use Rattle.cow_pages.proofs.SharedPages.{length-bytes_in, read_shared}
use Rattle.cow_pages.proofs.pages.Pages.load.Goals as goal

pub index-shared-requires : goal.index-shared-requires
index-shared-requires c =
    let size = length-bytes_in c.self.inside.pages.items c.self.invariant.0 in
    let same = ap length c.self.view_is in
    on_some_page c.args.offset c.args.width _ (width_positive c.args.width c.requires.width) (omega arith)

pub returns : goal.returns
returns c =
    let size = length-bytes_in c.self.inside.pages.items c.self.invariant.0 in
    let same = ap length c.self.view_is in
    let page_is = on_some_page c.args.offset c.args.width (length c.self.inside.pages.items) (width_positive c.args.width c.requires.width) (omega arith) in
    let part = read_shared c.self.inside.pages.items c.args.offset c.args.width c.index-shared.result.now c.self.invariant.0 page_is (in_one_page c.args.offset c.args.width c.requires.width c.requires.aligned) c.index-shared.ensures in
    c.number_at.ensures
    ∙ ap number_of (ap (λ (p : List ℕ). slice_range p (c.args.offset % page) (c.args.offset % page + c.args.width)) c.deref.ensures ∙ sym part
    ∙ ap (λ (b : List ℕ). slice_range b c.args.offset (c.args.offset + c.args.width)) c.self.view_is)
