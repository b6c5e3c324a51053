use Rattle.std.proofs.Common.{◌≡◌, ◌<◌, ◌≤◌, All, ap, sym, subst, ◌∙◌, arith}
use Rattle.wedge_base.specs.Images.{begins_at}
use Rattle.image_form.specs.Rules.{addresses}
use Rattle.image_form.specs.Address.{greatest_from}
use Rattle.image_form.proofs.Addresses.{greatest_bounded, greatest_covers, greatest_begins, base_not_above}
use Rattle.image_form.proofs.image.Image.proc_of.Goals as goal

-- what the loop found is the greatest of the image's own procedures
found : (c : goal.After-greatest_not_above) → c.greatest_not_above.result ≡ greatest_from 0 c.args.address (addresses c.args.self.now.procedures)
found c = c.greatest_not_above.ensures ∙ ap (λ ps. greatest_from 0 c.args.address (addresses ps)) c.procedures.ensures.is

pub returns-clause-begins : goal.returns-clause-begins
returns-clause-begins c =
    let i = c.args.self.now in
    let valid = c.procedures.ensures.valid in
    let above : i.base ≤ c.args.address = base_not_above i c.args.address 1 c.requires in
    let positive : 0 < i.base = omega (arith, valid.text.base_low) in
    ap (begins_at i.procedures) (found c) ∙ greatest_begins i.procedures c.args.address i.base valid.procedures.one_at_base positive above

pub returns-clause-not_above : goal.returns-clause-not_above
returns-clause-not_above c = omega (arith, found c, greatest_bounded 0 c.args.address (addresses c.args.self.now.procedures))

pub returns-clause-greatest : goal.returns-clause-greatest
returns-clause-greatest c =
    let ns = addresses c.args.self.now.procedures in
    subst (λ n. All (λ a. a ≤ c.args.address → a ≤ n) ns) (sym (found c)) (greatest_covers 0 c.args.address ns)
