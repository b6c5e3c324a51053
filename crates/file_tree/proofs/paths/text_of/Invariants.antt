use Rattle.std.proofs.Common.{◌≡◌, ◌++◌, map, drop}
use Rattle.wedge_base.specs.Paths as paths
use Rattle.file_tree.proofs.paths.text_of.Given as goal

abbrev pub invariant-loop-part : goal.invariant-loop-part
invariant-loop-part l =
    l.text.items ++ paths.after_slashes (map (λ p. p.now) (drop l.part-index l.parts)) ≡ paths.after_slashes (map (λ p. p.now) l.parts)
