use Rattle.std.proofs.Common.{rules, ◌≡◌, ◌∷◌, sym, ap, subst, ◌∙◌}
use Rattle.std.specs.Prelude.{All}
use Rattle.thread_laws.specs.Joining.{all_logged}
use Rattle.thread_laws.specs.KeptEntries.{IsKept}
use Rattle.tag_laws.specs.DeclaredTags.{entries_on_declared}
use Rattle.run_cells.specs.TagPasses.{all_entered}
use Rattle.gate_runner.proofs.Gathered.{gathered_so}
use Rattle.gate_runner.proofs.gather.gathered.Goals as goal

pub returns-clause-gathered : goal.returns-clause-gathered
returns-clause-gathered g c =
    let n = g.T.TableOf.table.slots in
    let r = c.args.returned in
    let logs : c.new.result ≡ r.log ∷ r.others.items = search rules in
    let kept : All (IsKept g.I.RunOf.unkept) c.new.result = subst (All (IsKept g.I.RunOf.unkept)) (search rules) c.in_ok-logs.ensures.kept in
    gathered_so g.I.RunOf.image n g.I.RunOf.unkept (all_entered r.passes.items) r.log r.others.items c.new.result r.end c.into_gathered.result logs c.requires.count c.requires.kept kept c.requires.returned.family
    (c.requires.returned.entered ∙ ap (λ gs. entries_on_declared n (all_logged gs)) (sym logs))
    c.into_gathered.ensures.logs c.into_gathered.ensures.count c.into_gathered.ensures.kept c.into_gathered.ensures.ruled
