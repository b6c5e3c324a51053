use Rattle.std.proofs.Common.{ap, ◌∙◌, map, refl}
use Rattle.std.specs.Str.{bytes_eq}
use Rattle.cb_analyze.proofs.KeySets.{keys_with}
use Rattle.cb_analyze.proofs.names.add_name.Goals as goal

pub returns : goal.returns
returns c =
    ap (map (λ k. k.now)) c.in_ok-insert.ensures.keys
    ∙ keys_with _ bytes_eq (λ k. k.now) (λ a b. refl) c.args.seen.now.keys c.args.name
