use Rattle.std.proofs.Common.{sym, ◌∙◌}
use Rattle.rv_hart.proofs.Loads.{finished_load}
use Rattle.rv_hart.proofs.Hart.finish.Goals as goal

pub returns-in-Loaded : goal.returns-in-Loaded
returns-in-Loaded c =
    let needed = rw c.in-Loaded.is at c.requires.needed in
    rw c.in-Loaded.is (c.load.ensures ∙ sym (finished_load c.args.instr c.args.self.now c.in-Loaded.value needed))
