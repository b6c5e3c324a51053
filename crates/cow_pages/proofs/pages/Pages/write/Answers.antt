use Rattle.std.proofs.Common.{rules, ◌≡◌, ◌<◌, ◌∙◌, ap, arith, length, ℕ, List}
use Rattle.std.specs.List.{concat}
use Rattle.std.proofs.lemmas.List.{with_items_is}
use Rattle.wedge_base.specs.Bytes.{overwrite}
use Rattle.cow_pages.specs.SharedPages.{bytes_in}
use Rattle.cow_pages.proofs.PageOffsets.{on_some_page, length-written}
use Rattle.cow_pages.proofs.SharedPages.{length-bytes_in, cloned}
use Rattle.cow_pages.proofs.pages.Pages.write.Goals as goal

pub write_pieces-requires-clause-whole : goal.write_pieces-requires-clause-whole
write_pieces-requires-clause-whole c =
    rw (c.deref_mut-2.ensures.value, cloned c.self.inside.pages.items c.in_ok-pages.pages.items c.in_ok-pages.ensures.cases.0) c.self.invariant.0

pub write_pieces-requires-clause-inside : goal.write_pieces-requires-clause-inside
write_pieces-requires-clause-inside c =
    let same = ap length (ap bytes_in c.deref_mut-2.ensures.value ∙ ap concat (cloned c.self.inside.pages.items c.in_ok-pages.pages.items c.in_ok-pages.ensures.cases.0) ∙ c.self.view_is) in
    omega arith

pub write_pieces-requires-clause-small : goal.write_pieces-requires-clause-small
write_pieces-requires-clause-small c =
    let size = length-bytes_in c.self.inside.pages.items c.self.invariant.0 in
    let same = ap length c.self.view_is in
    omega (arith, c.self.invariant.1)

pub returns-clause-ok : goal.returns-clause-ok
returns-clause-ok c =
    let same : bytes_in c.deref_mut-2.result.now ≡ c.args.self.now = ap bytes_in c.deref_mut-2.ensures.value ∙ ap concat (cloned c.self.inside.pages.items c.in_ok-pages.pages.items c.in_ok-pages.ensures.cases.0) ∙ c.self.view_is in
    let len = c.write_pieces.auto.pages in
    ap bytes_in (with_items_is c.in_ok-pages.pages c.write_pieces.new.pages (omega arith))
    ∙ c.in_ok-write_pieces.ensures.ok
    ∙ ap (λ (b : List ℕ). overwrite b c.args.offset c.args.new.now) same

pub write_piece-requires-clause-inside : goal.write_piece-requires-clause-inside
write_piece-requires-clause-inside c =
    let size = length-bytes_in c.self.inside.pages.items c.self.invariant.0 in
    let same = ap length c.self.view_is in
    let some : 0 < length c.args.new.now = search rules in
    let now = ap length c.deref_mut.ensures.value in
    on_some_page c.args.offset (length c.args.new.now) (length c.deref_mut.result.now) some (omega arith)

pub returns-clause-len : goal.returns-clause-len
returns-clause-len c = ap length (returns-clause-ok c) ∙ length-written c.args.self.now c.args.offset c.args.new.now c.requires
