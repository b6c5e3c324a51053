use Rattle.std.proofs.Common.{◌≡◌, [], map, drop}
use Rattle.wedge_base.specs.Paths as paths
use Rattle.file_tree.proofs.paths.walked.Given as goal

abbrev pub invariant-loop-piece : goal.invariant-loop-piece
invariant-loop-piece l =
    paths.resolve_parts (map (λ p. p.now) l.kept.items) (map (λ p. p.now) (drop l.piece-index l.piece-items)) ≡ paths.resolve_parts [] (paths.pieces l.path)
