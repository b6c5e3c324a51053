use Rattle.std.proofs.Common.{subst}
use Rattle.std.specs.Prelude.{IfOk}
use Rattle.wedge_base.specs.Images.{Image}
use Rattle.wedge_cli.specs.Ended.{IsSummary}
use Rattle.wedge_cli.proofs.workloads.run_workload.Goals as goal

pub returns : goal.returns
returns g c =
    subst (λ (i : Image). IfOk c.run_summed.result (λ r. IsSummary i c.args.workers r.kept r.texts.items)) c.in_ok-image.ensures c.run_summed.ensures
