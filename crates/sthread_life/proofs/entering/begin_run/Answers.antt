use Rattle.std.proofs.Common.{ap, ◌∙◌}
use Rattle.std.specs.Option.{option_copied, unwrap_or}
use Rattle.callgate.specs.declared.gate.Gate.{Gate}
use Rattle.cow_pages.specs.PrivateMemory.{no_memory}
use Rattle.machine.specs.Actors.{whole}
use Rattle.sthread_life.proofs.entering.begin_run.Goals as goal

pub returns-clause-begun : goal.returns-clause-begun
returns-clause-begun c =
    let memory = c.in_ok-memory.ensures ∙ ap (λ (g : Gate). unwrap_or (option_copied c.args.kept) g.memory) c.gate.ensures in
    ap (whole c.in_ok-run.run') memory ∙ c.in_ok-run.ensures.is no_memory (option_copied c.args.kept)
