use Rattle.std.proofs.Common.{◌*◌, ◌/◌, ◌∙◌, ap, sym, arith, length, set, ℕ, List}
use Rattle.std.specs.List.{concat}
use Rattle.std.proofs.lemmas.List.{length-set}
use Rattle.std.proofs.lemmas.Result.{on_ok_weaker, on_err_weaker}
use Rattle.wedge_base.specs.Bytes.{overwrite, bytes_of}
use Rattle.wedge_base.specs.Images.{page}
use Rattle.cow_pages.proofs.PageOffsets.{in_one_page, on_some_page, width_positive, length-bytes_of}
use Rattle.cow_pages.proofs.SharedPages.{length-bytes_in, write_shared, same_shared, whole_shared, whole_at}
use Rattle.cow_pages.proofs.pages.Pages.store.Goals as goal

pub index_mut-shared-requires : goal.index_mut-shared-requires
index_mut-shared-requires c =
    let size = length-bytes_in c.self.inside.pages.items c.self.invariant.0 in
    let same = ap length c.self.view_is in
    on_some_page c.args.offset c.args.width _ (width_positive c.args.width c.requires.width) (omega arith)

pub invariant_of-self : goal.invariant_of-self
invariant_of-self c =
    let len = length-set c.self.inside.pages.items (c.args.offset / page) c.write_number.new.shared in
    (whole_shared c.self.inside.pages.items (c.args.offset / page) c.write_number.new.shared c.self.invariant.0 c.write_number.ensures.whole, omega (arith, c.self.invariant.1))

pub returns-clause-ok : goal.returns-clause-ok
returns-clause-ok c =
    let size = length-bytes_in c.self.inside.pages.items c.self.invariant.0 in
    let same = ap length c.self.view_is in
    let page_is = on_some_page c.args.offset c.args.width (length c.self.inside.pages.items) (width_positive c.args.width c.requires.width) (omega arith) in
    let inside = in_one_page c.args.offset c.args.width c.requires.width c.requires.aligned in
    let count = length-bytes_of c.args.width c.args.value in
    on_ok_weaker c.write_number.result (λ e.
    write_shared c.self.inside.pages.items c.args.offset (bytes_of c.args.width c.args.value) c.index_mut-shared.result.now c.write_number.new.shared c.self.invariant.0 page_is (omega (arith, inside)) c.index_mut-shared.ensures.value e
    ∙ ap (λ (b : List ℕ). overwrite b c.args.offset (bytes_of c.args.width c.args.value)) c.self.view_is)
    c.write_number.ensures.ok

pub returns-clause-err : goal.returns-clause-err
returns-clause-err c =
    let size = length-bytes_in c.self.inside.pages.items c.self.invariant.0 in
    let same = ap length c.self.view_is in
    let page_is = on_some_page c.args.offset c.args.width (length c.self.inside.pages.items) (width_positive c.args.width c.requires.width) (omega arith) in
    on_err_weaker c.write_number.result (λ e. ap concat (same_shared c.self.inside.pages.items (c.args.offset / page) c.index_mut-shared.result.now c.write_number.new.shared page_is c.index_mut-shared.ensures.value e) ∙ c.self.view_is)
    c.write_number.ensures.err

pub write_number-requires-clause-whole : goal.write_number-requires-clause-whole
write_number-requires-clause-whole c =
    let size = length-bytes_in c.self.inside.pages.items c.self.invariant.0 in
    let same = ap length c.self.view_is in
    let page_is = on_some_page c.args.offset c.args.width (length c.self.inside.pages.items) (width_positive c.args.width c.requires.width) (omega arith) in
    whole_at c.self.inside.pages.items (c.args.offset / page) c.index_mut-shared.result.now c.self.invariant.0 page_is c.index_mut-shared.ensures.value

pub returns-clause-len : goal.returns-clause-len
returns-clause-len c =
    let items = c.self.inside.pages.items in
    let after = set items (c.args.offset / page) c.write_number.new.shared in
    let whole = whole_shared items (c.args.offset / page) c.write_number.new.shared c.self.invariant.0 c.write_number.ensures.whole in
    length-bytes_in after whole
    ∙ ap (λ (n : ℕ). n * page) (length-set items (c.args.offset / page) c.write_number.new.shared)
    ∙ sym (length-bytes_in items c.self.invariant.0)
    ∙ ap length c.self.view_is
