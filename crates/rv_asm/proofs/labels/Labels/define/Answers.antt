use Rattle.std.proofs.lemmas.Map.Text.{hash_map_updates_str}
use Rattle.rv_asm.proofs.labels.Labels.define.Goals as goal

pub returns : goal.returns
returns c = λ i q. hash_map_updates_str c.args.name.now c.args.self.now.map c.insert.new.self _ c.in_ok-insert.ensures.updates q i
