use Rattle.std.proofs.Common.{◌≡◌, ◌++◌, List, length}
use Rattle.std.specs.Prelude.{All}
use Rattle.std.specs.Vec.Iter.{into_iter_items, into_iter_len}
use Rattle.thread_laws.specs.ActorProgresses.{ActorProgress, CreatedActor, Families, IsProgress}
use Rattle.thread_laws.specs.Replaying.{IsLegalHistory}
use Rattle.thread_laws.specs.Joining.{all_logged}
use Rattle.tag_laws.specs.DeclaredTags.{entries_on_declared}
use Rattle.run_cells.specs.TagPasses.{all_entered}
use Rattle.actor_task.specs.Tasks.{IsTask}
use Rattle.actor_ends.proofs.finishing.gather.Given as goal

abbrev pub invariant-loop-one : goal.invariant-loop-one
invariant-loop-one g l =
    (done : List CreatedActor) × Families g.I.RunOf.image done l.all.others.items
    × ((r : ActorProgress) → IsTask g.I.RunOf.image r l.fn.created.items → IsProgress g.I.RunOf.image r (done ++ into_iter_items l.one-iterator))
    × All (IsLegalHistory g.I.RunOf.image) l.all.gates.items
    × (all_entered l.all.passes.items ≡ l.fn.pass ++ entries_on_declared g.T.TableOf.table.slots (all_logged l.all.others.items))
    × (into_iter_len l.one-iterator ≡ length (into_iter_items l.one-iterator))
