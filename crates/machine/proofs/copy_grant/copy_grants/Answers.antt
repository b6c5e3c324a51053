use Rattle.std.proofs.Common.{◌≡◌, [], ◌++◌, map, drop, sym, ap, ◌∙◌}
use Rattle.std.proofs.Math.ListN.{drop_of_length-le}
use Rattle.std.proofs.lemmas.List.{append-nil}
use Rattle.wedge_base.specs.Sheets.{tag_granted}
use Rattle.machine.specs.CopyGrant.{copy_grants}
use Rattle.machine.proofs.SlotsHeld.{copies_inside}
use Rattle.machine.proofs.copy_grant.copy_grants.Goals as goal

pub returns-clause-placed : goal.returns-clause-placed
returns-clause-placed c =
    let tags = c.as_slice-tags.result.now in
    let items = c.loop-number.grants.items in
    let granted = map (tag_granted c.args.sheet.now c.args.made.now) in
    let gone : drop c.loop-number.number-index tags ≡ [] = drop_of_length-le tags c.loop-number-test.false in
    let is : items ≡ copy_grants (granted tags) = sym (append-nil items) ∙ (ap (λ l. items ++ copy_grants (granted l)) (sym gone) ∙ c.loop-number.invariant) in
    copies_inside c.args.sheet.now c.args.made.now tags items is c.requires
