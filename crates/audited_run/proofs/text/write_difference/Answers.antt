use Rattle.std.proofs.Common.{◌≡◌, ◌++◌, codes, ap, ◌∙◌, append_assoc}
use Rattle.std.specs.Fmt.{decimal}
use Rattle.audited_run.specs.Texts.{cell_text}
use Rattle.audited_run.proofs.text.write_difference.Goals as goal

pub returns : goal.returns
returns c =
    let old = c.args.out.now.items in
    let head = codes "disagree in " in
    let cell = cell_text c.args.difference.now.cell in
    let at = codes " at " in
    let index = decimal c.args.difference.now.index in
    let one : c.extend_from_slice.new.self.items ≡ old ++ head = c.in_ok-extend_from_slice.ensures.items in
    let two : c.write_cell.new.out.items ≡ c.extend_from_slice.new.self.items ++ cell = c.in_ok-write_cell.ensures in
    let three : c.write_index.new.out.items ≡ (c.write_cell.new.out.items ++ at) ++ index = c.in_ok-write_index.ensures in
    three ∙ ap (λ t. (t ++ at) ++ index) (two ∙ ap (λ t. t ++ cell) one ∙ append_assoc old head cell)
    ∙ ap (λ t. t ++ index) (append_assoc old (head ++ cell) at)
    ∙ append_assoc old ((head ++ cell) ++ at) index
