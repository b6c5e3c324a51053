use Rattle.std.proofs.Common.{◌≡◌, ◌∙◌, true, sym, subst}
use Rattle.wedge_base.specs.Paths.{is_canonical}
use Rattle.machine.proofs.Canonical.{root_canonical}
use Rattle.machine.proofs.actor.root_path.Goals as goal

pub new-requires : goal.new-requires
new-requires c =
    let is = c.in_ok-copy.ensures ∙ c.root.ensures.is in
    subst (λ text. is_canonical text ≡ true) (sym is) (root_canonical c.args.image.now.root c.root.ensures.valid.root_canonical)
